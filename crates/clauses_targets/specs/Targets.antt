-- What the clause of premises and targets is stated with. Assumes nothing.
use Rattle.std.specs.Prelude.{◌≡◌, List, map, ℕ, ◌<◌, ◌≤◌, length}
use Rattle.limits.specs.Limits.{state_most}
use Rattle.pairs.specs.Triangles.{together}
use Rattle.table_spec.specs.File.{records}
use Rattle.clauses_emit.specs.declared.literals.Literals.{Literals}
use Rattle.clauses_emit.specs.Emit.{literals_of, last_bytes, Negative, Ascending}

-- so many records of w bytes
pub record Counted (w : ℕ) (found : List ℕ) (count : ℕ) : Type 0 where
  pub some-width : 0 < w
  pub counted : count ≡ length (records w found)
  pub few : count ≤ state_most

-- premises, and records whose targets ascend
pub record Premised (w : ℕ) (found : List ℕ) (premises : Literals) : Type 0 where
  pub some-width : 0 < w
  pub few : length (records w found) ≤ state_most
  pub two : premises.n ≤ 2
  pub negative : Negative (literals_of premises)
  pub ascending : Ascending 0 (last_bytes w found)

-- "then {p',q'} true for each"
abbrev pub target_literals : ℕ → ℕ → List ℕ → List ℕ
target_literals w p' found = map (together p') (last_bytes w found)
