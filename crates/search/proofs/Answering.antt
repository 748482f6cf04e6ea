-- Laws for the operation: the outcome of the search, and the variables of the limits. Assumes nothing.
use mathlib.Core.Path.{◌≡◌, sym, ap, ◌∙◌}
use mathlib.Core.List.{List}
use Prim.Native.Nat.{ℕ, ◌-◌, ◌*◌, ◌≤◌}
use native.Mathlib.Nat.{mul-le-mul}
use native.Mathlib.Omega.{arith}
use Rattle.cnf.specs.Clauses.{clauses_in}
use Rattle.cnf.specs.Search.{solved, none_exists, spent, search_from}
use Rattle.cnf.specs.Trials.{search_tried}
use Rattle.sat_decide.specs.declared.Ending.{Ending}
use Rattle.sat_decide.specs.declared.Ending.TheVariants.{Found, Absent, Spent}
use Rattle.sat_trail.specs.Conclusions.{with_triangles}
use Rattle.sat_decide.specs.Turns.{EndsWith, outcome_of}
use Rattle.equality_spread.proofs.Triangles.{with_none}
use Rattle.sat_decide.proofs.Ends.{ends-outcome}

-- ---- the outcome

module _ (ws : List ℕ) (n b : ℕ) (r : Ending) (v : List ℕ) (u : ℕ) {m : ℕ} (e : m ≡ n) (q : EndsWith (search_tried (with_triangles ws 0) m b) r v u) where
  outcome : outcome_of r v ≡ search_from (clauses_in ws) n b
  outcome = ends-outcome (with_triangles ws 0) m b r v u q ∙ ap (λ (cs : List (List ℕ)). search_from cs m b) (with_none ws) ∙ ap (λ (j : ℕ). search_from (clauses_in ws) j b) e

  pub is_found : {k : ℕ} → r ≡ Found k → solved v k ≡ search_from (clauses_in ws) n b
  is_found p = sym (ap (λ (z : Ending). outcome_of z v) p) ∙ outcome

  pub is_absent : {k : ℕ} → r ≡ Absent k → none_exists k ≡ search_from (clauses_in ws) n b
  is_absent p = sym (ap (λ (z : Ending). outcome_of z v) p) ∙ outcome

  pub is_spent_lem : {k : ℕ} → r ≡ Spent k → spent k ≡ search_from (clauses_in ws) n b
  is_spent_lem p = sym (ap (λ (z : Ending). outcome_of z v) p) ∙ outcome

-- ---- the variables of the limits

-- the product fits
pub few-product : (n : ℕ) → n ≤ 40 → n * (n - 1) ≤ 1600
few-product n h = mul-le-mul {n₂ = 40} {m₂ = 40} h (omega arith)

pub room : {n m : ℕ} → n ≤ m → m ≤ 780 → n ≤ 780
room h k = omega arith
