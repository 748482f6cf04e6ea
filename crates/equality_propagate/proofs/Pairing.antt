-- Laws for a variable that is read as its pair. Assumes nothing.
use mathlib.Core.Path.{◌≡◌, sym, ap, ◌∙◌, subst}
use mathlib.Core.Logic.{◌≢◌}
use mathlib.Core.Bool.{Bool, false}
use mathlib.Core.List.Memᴰ.{not-nil}
use mathlib.Core.List.{List, Memᴰ}
use Prim.Native.Nat.{ℕ, ◌<◌}
use native.Mathlib.Omega.{arith}
use lib.ListN.{length, get_or}
use Rattle.lists.proofs.Members.{get_d_any}
use Rattle.cnf.specs.Clauses.{value_of}
use Rattle.pairs.specs.Pairs.{variable_of}
use Rattle.pairs.specs.Triangles.{triangles}
use Rattle.sat_trail.specs.Trail.{Ready, Attended}
use Rattle.sat_trail.specs.Rows.{PairAt}
use Rattle.sat_trail.proofs.Working.{worked-none}
use Rattle.equality_spread.proofs.Triangles.{no_triangles}

module _ {n x : ℕ} {v t : List ℕ} {start : ℕ} (i : Ready (triangles n) v t start) where
  -- no states have no clauses of group 2
  pub attended_none : n ≡ 0 → Attended (triangles n) x v t start v t false start
  attended_none z = record { worked = worked-none i; settles = λ _ c m. absurd (not-nil (subst (λ (l : List (List ℕ)). Memᴰ c l) (ap triangles z ∙ no_triangles) m)) }

  module _ {p q m : ℕ} (g : PairAt n x p q) (b : (x < length v) × (value_of v x ≢ 2)) (e : m ≡ x) where
    value_there : value_of v (variable_of p q) ≡ get_or v m 0
    value_there = ap (value_of v) (g.is_x ∙ sym e) ∙ get_d_any v m 2 0 (omega (arith, b.0))

    pub value_joined : get_or v m 0 ≡ 1 → value_of v (variable_of p q) ≡ 1
    value_joined k = value_there ∙ k

    pub value_apart : (get_or v m 0 ≡ 1 → ⊥) → value_of v (variable_of p q) ≡ 0
    value_apart k = omega (arith, value_there, i.values.small (variable_of p q), not-two, k)
      where
        not-two : value_of v (variable_of p q) ≢ 2
        not-two z = b.1 (ap (value_of v) (sym g.is_x) ∙ z)

  pub at-variable :
      {p q : ℕ} {w s : List ℕ} {more : ℕ} {isBroken : Bool} → PairAt n x p q → Attended (triangles n) (variable_of p q) v t start w s isBroken more
      → Attended (triangles n) x v t start w s isBroken more
  at-variable {w = w} {s = s} {more = more} {isBroken = isBroken} g k = subst (λ (y : ℕ). Attended (triangles n) y v t start w s isBroken more) g.is_x k
