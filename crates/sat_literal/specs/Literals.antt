-- A clause of a list that is asked what it says of the values. Assumes nothing.
use mathlib.Core.List.{List, Memᴰ}
use Rattle.std.specs.Prelude.{ℕ, ◌+◌, ◌/◌, ◌<◌, get_or}
use Rattle.std.proofs.Math.Seq.{slice}

-- the clause whose count stands at a place
abbrev pub clause_at : List ℕ → ℕ → List ℕ
clause_at ws at = slice (at + 1) (at + 1 + get_or ws at 0) ws

-- the literals' variables are below n
abbrev pub Over : List ℕ → ℕ → Type 0
Over c n = (l : ℕ) → Memᴰ l c → l / 2 < n
