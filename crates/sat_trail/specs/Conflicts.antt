-- Setting variables answers how many are set, or a conflict, which says so too. Assumes nothing.
use Rattle.std.specs.Prelude.{Bool, true, false, ℕ, Result, Ok, Err}
use Rattle.sat_trail.specs.declared.Conflict.{Conflict}

-- whether a clause is broken
abbrev pub is_broken : {T : Type 0} → Result T Conflict → Bool
is_broken (Ok n) = false
is_broken (Err e) = true

-- how many variables are set
abbrev pub set_count : Result ℕ Conflict → ℕ
set_count (Ok n) = n
set_count (Err e) = e.count
