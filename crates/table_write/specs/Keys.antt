-- Records as numbers: a record is given by its key, and a buffer holds numbers at its front. Assumes nothing.
use Rattle.std.specs.Prelude.{◌≡◌, List, [], ◌∷◌, map, ℕ, ◌-◌, ◌/◌, ◌%◌, length, take, drop}
use Rattle.table_find.specs.Keys.{key}

abbrev pub keys_of : List (List ℕ) → List ℕ
keys_of = map key

-- the four bytes of a 32-bit number, the highest first
unfoldable pub bytes32 : ℕ → List ℕ
bytes32 k = (k / 16777216) ∷ (k / 65536 % 256) ∷ (k / 256 % 256) ∷ (k % 256) ∷ []

-- the record of w bytes that a key stands for
unfoldable pub record_of : ℕ → ℕ → List ℕ
record_of w k = drop (4 - w) (bytes32 k)

-- the first n numbers of a buffer are these
pub record Holds (buffer : List ℕ) (n : ℕ) (ks : List ℕ) : Type 0 where
  pub count : n ≡ length ks
  pub same : take n buffer ≡ ks
