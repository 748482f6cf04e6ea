-- Bytes as one number, as records are compared. Assumes nothing.
use Rattle.std.specs.Prelude.{◌≡◌, List, [], ◌∷◌, ℕ, ◌+◌, ◌*◌, ◌<◌, ◌≤◌, length, get_or}

-- the bytes after those of k, as one number
unfoldable pub key_from : ℕ → List ℕ → ℕ
key_from k [] = k
key_from k (b ∷ r) = key_from (k * 256 + b) r

-- bytes as a number, the first the highest
abbrev pub key : List ℕ → ℕ
key = key_from 0

-- the number of a key: bytes, as many as a record of 3 or 4 has before its last
pub record Keyed (w : ℕ) (k : List ℕ) (n : ℕ) : Type 0 where
  pub least : 3 ≤ w
  pub most : w ≤ 4
  pub long : length k + 1 ≡ w
  pub bytes : (i : ℕ) → get_or k i 0 < 256
  pub number : n ≡ key k

-- r is what f gives for the key of this number, whichever bytes it is
abbrev pub ByKey : {A : Type 0} → ℕ → ℕ → A → (List ℕ → A) → Type 0
ByKey w n r f = (k : List ℕ) → Keyed w k n → r ≡ f k
