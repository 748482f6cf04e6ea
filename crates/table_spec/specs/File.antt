-- The table file (document 01, "The table file"; document 02, (v)): the table that bytes hold, and the bytes of a table. Assumes nothing.
use Rattle.std.specs.Prelude.{List, [], ◌∷◌, ◌++◌, ℕ, ◌+◌, ◌-◌, ◌*◌, ◌/◌, ◌%◌, length, get_or}
use Rattle.std.proofs.Math.Seq.{slice}
use Rattle.lists.specs.Lists.{parts, concat, concat_map}

-- the file's version and the five sections; a record is its bytes
pub record Table : Type 0 where
  pub version : ℕ
  pub symbols : List ℕ
  pub states : List ℕ
  pub internals : List (List ℕ)
  pub calls : List (List ℕ)
  pub returns : List (List ℕ)

-- a table of states alone: what those who look at nothing else are stated with
abbrev pub of_states : List ℕ → Table
of_states states = record { version = 0; symbols = []; states = states; internals = []; calls = []; returns = [] }

-- "16-bit little-endian numbers"
unfoldable pub word16 : List ℕ → ℕ → ℕ
word16 b i = get_or b i 0 + 256 * get_or b (i + 1) 0

-- the place of the "12-byte trailer"
unfoldable pub trailer : List ℕ → ℕ
trailer b = length b - 12

-- "the distances back from its first byte to each section's start"
unfoldable pub distance : List ℕ → ℕ → ℕ
distance b k = word16 b (trailer b + 2 * k)

-- "then version 1"; or, by request (v), 2
unfoldable pub version : List ℕ → ℕ
version b = word16 b (trailer b + 10)

-- section k's start
unfoldable pub start : List ℕ → ℕ → ℕ
start b k = trailer b - distance b k

-- the records of w bytes that a section holds
unfoldable pub records : ℕ → List ℕ → List (List ℕ)
records w s = parts (length s / w) w s

-- "Each section is a part of the file that begins where the one before it ends."
unfoldable pub table_of : List ℕ → Table
table_of b =
    record {
      version = version b;
      symbols = slice (start b 0) (start b 1) b;
      states = slice (start b 1) (start b 2) b;
      internals = records 3 (slice (start b 2) (start b 3) b);
      calls = records 3 (slice (start b 3) (start b 4) b);
      returns = records 4 (slice (start b 4) (trailer b) b);
    }

-- a number as two bytes, the lower first
unfoldable pub bytes16 : ℕ → List ℕ
bytes16 x = (x % 256) ∷ (x / 256 % 256) ∷ []

-- "Each section is written after the one before it": the sections from each one on
unfoldable pub from_returns : Table → List ℕ
from_returns t = concat t.returns

unfoldable pub from_calls : Table → List ℕ
from_calls t = concat t.calls ++ from_returns t

unfoldable pub from_internals : Table → List ℕ
from_internals t = concat t.internals ++ from_calls t

unfoldable pub from_states : Table → List ℕ
from_states t = t.states ++ from_internals t

unfoldable pub from_symbols : Table → List ℕ
from_symbols t = t.symbols ++ from_states t

-- ".. then the trailer": the five distances and the version
unfoldable pub trailer_of : Table → List ℕ
trailer_of t = concat_map bytes16 (length (from_symbols t) ∷ length (from_states t) ∷ length (from_internals t) ∷ length (from_calls t) ∷ length (from_returns t) ∷ t.version ∷ [])

unfoldable pub bytes_of : Table → List ℕ
bytes_of t = from_symbols t ++ trailer_of t
