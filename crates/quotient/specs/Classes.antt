-- The state bytes of classes. Assumes nothing.
use Rattle.std.specs.Prelude.{Bool, List, map, ℕ, ◌/◌, ◌%◌, eqb}
use Rattle.lists.specs.Lists.{upto}
use Rattle.table_spec.specs.File.{Table}
use Rattle.quotient_spec.specs.Quotient.{class_byte}

-- a state byte has the flag 1 "for initial" or 2 "for accepting"
unfoldable pub flagged : ℕ → ℕ → Bool
flagged flag byte = eqb (byte / flag % 2) 1

-- the state bytes of n classes
abbrev pub class_bytes : Table → List ℕ → ℕ → List ℕ
class_bytes t m n = map (class_byte t m) (upto n)
