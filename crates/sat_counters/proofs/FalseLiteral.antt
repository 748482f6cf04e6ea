-- The literal of a variable that is false. Assumes nothing.
use mathlib.Core.Path.{◌≡◌, sym, ap, ◌∙◌}
use mathlib.Core.List.{List}
use Prim.Native.Nat.{ℕ, ◌+◌, ◌*◌, ◌<◌}
use native.Mathlib.Omega.{arith}
use lib.ListN.{length, get_or}
use Rattle.lists.proofs.Members.{get_d_any}
use Rattle.cnf.specs.Clauses.{value_of}

-- by the value at the variable's place
module _ (v : List ℕ) {x i : ℕ} (h : x < length v) (k : value_of v x < 2) (e : i ≡ x) where
  value_there : value_of v x ≡ get_or v i 0
  value_there = get_d_any v x 2 0 h ∙ ap (λ (j : ℕ). get_or v j 0) (sym e)

  pub literal-one : get_or v i 0 ≡ 1 → 2 * i + 1 ≡ 2 * x + value_of v x
  literal-one q = omega (arith, value_there)

  pub literal-none : (get_or v i 0 ≡ 1 → ⊥) → 2 * i ≡ 2 * x + value_of v x
  literal-none q = omega (arith, value_there)
