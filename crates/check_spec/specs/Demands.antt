-- What the check promises (demand 2): "accepts a properly numbered map exactly when it is a reachability-aware quotienting relation".
-- Assumes nothing.
use Rattle.std.specs.Prelude.{◌≡◌, ◌↔◌, Result, List, [], ◌∷◌, ℕ}
use Rattle.lists.specs.Lists.{Says}
use Rattle.limits.specs.declared.Limits.{Limits}
use Rattle.table_spec.specs.File.{table_of}
use Rattle.table_spec.specs.Reading.{Readable}
use Rattle.table_spec.specs.Maps.{Proper, RaqMap}
use Rattle.refusals.specs.declared.Refusal.{Refusal}
use Rattle.refusals.specs.Refusals.{number_in, one_value, values_in}

-- accepted: nothing is refused
abbrev pub IsAccepted : Result ℕ Refusal → Type 0
IsAccepted r = number_in r ≡ 0

-- "Accepted, the answer is the class count": c
abbrev pub AcceptedWith : Result ℕ Refusal → ℕ → Type 0
AcceptedWith r c = Says (number_in r) (values_in one_value r) 0 (c ∷ [])

-- of a readable table, a map is accepted exactly when it is properly numbered and its relation meets Definition 1
abbrev pub AcceptsExactly : Limits → List ℕ → List ℕ → Result ℕ Refusal → Type 0
AcceptsExactly L b m r = Readable L b → IsAccepted r ↔ (Proper (table_of b) m × RaqMap (table_of b) m)
