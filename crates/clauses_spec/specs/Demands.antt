-- What the written list is worth (demand 3). Assumes nothing.
use Rattle.std.specs.Prelude.{◌≡◌, Result, List, ℕ, take}
use Rattle.lists.specs.Lists.{OnValues}
use Rattle.cnf.specs.Clauses.{Model, clauses_in}
use Rattle.limits.specs.declared.Limits.{Limits}
use Rattle.refusals.specs.declared.Refusal.{Refusal}
use Rattle.refusals.specs.Refusals.{number_in, values_in}
use Rattle.pairs.specs.Pairs.{pairs}
use Rattle.table_spec.specs.File.{table_of}
use Rattle.table_spec.specs.Language.{count}
use Rattle.check_spec.specs.Check.{check_number}
use Rattle.clauses_spec.specs.Maps.{map_of}
use Rattle.clauses_spec.specs.declared.Listed.{Listed}
use Rattle.clauses_spec.specs.Clauses.{listed_values}

-- where a list was written, of its word count
abbrev pub OnList : Result Listed Refusal → (ℕ → Type 0) → Type 0
OnList r P = OnValues (number_in r) (values_in listed_values r) (λ v. P (v 1))

-- every assignment that satisfies the words written has a map that the check accepts
abbrev pub ListSound : Limits → List ℕ → List ℕ → Result Listed Refusal → Type 0
ListSound L b list r = OnList r (λ w. (v : List ℕ) → Model (clauses_in (take w list)) (pairs (count (table_of b))) v → check_number L b (map_of v (count (table_of b))) ≡ 0)
