-- The trial that is held where the budget is spent, found by walking back along the guesses that stand. Assumes nothing.
use Rattle.std.specs.Prelude.{Bool, true, false, List, ℕ, zero, suc, ◌≤◌, ◌<◌, length, get_or, take, drop, replicate, eqb}
use Rattle.cnf.specs.Trials.{only_true, satisfied}
use Rattle.sat_trail.specs.Trail.{unsetting}

-- a value of the trial where that holds, else false
abbrev pub held_value : ℕ → Bool → ℕ
held_value y true = elim (eqb y 1) [ true ↦ 1 | false ↦ 0 ]
held_value y false = 0

-- the trial of the values where it holds, else that of none true
abbrev pub held_if : Bool → List ℕ → List ℕ
held_if true v = only_true v
held_if false v = replicate (length v) 0

-- the trial of the values; where that breaks a clause, the trial of the values before the latest of d guesses, and so on. The places of the
-- guesses on the trail p are the first d of ms
unfoldable pub back_along : List (List ℕ) → List ℕ → List ℕ → List ℕ → ℕ → List ℕ
back_along cs ms v p zero = held_if (satisfied cs (only_true v)) v
back_along cs ms v p (suc d) = elim (satisfied cs (only_true v)) [
  | true ↦ only_true v
  | false ↦ back_along cs ms (unsetting v (drop (get_or ms d 0) p)) (take (get_or ms d 0) p) d
]

-- the first count variables of the trail t are variables of v, and the first d of ms are ascending places among them
pub record Retraceable (v t ms : List ℕ) (d count : ℕ) : Type 0 where
  pub few : d ≤ 780
  pub room : count ≤ length t
  pub below : (i : ℕ) → i < count → get_or t i 0 < length v
  pub places : (e : ℕ) → e < d → get_or ms e 0 < count
  pub ascend : (e f : ℕ) → e < f → f < d → get_or ms e 0 < get_or ms f 0
