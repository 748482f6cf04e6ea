-- The relation of an assignment: two states are related where they are one, or where their variable is true. Assumes nothing.
use mathlib.Core.Path.{◌≡◌, refl, sym, ap, ◌∙◌, subst}
use mathlib.Core.Logic.{◌⊎◌, inl, inr, ◌≢◌}
use mathlib.Core.Bool.{Bool, true, false}
use mathlib.Core.List.Memᴰ.{eq_of_singleton}
use mathlib.Core.List.Memᴰ.{not-nil}
use mathlib.Core.List.{List, [], ◌∷◌, Memᴰ}
use Prim.Native.Nat.{ℕ, ◌+◌, ◌*◌, ◌/◌, ◌<◌}
use native.Mathlib.Omega.{arith}
use native.Mathlib.Decide.{ℕ_discrete}
use lib.Dec.{eqb}
use borrow.Author.Tests.{eqb-false, ne_eqb}
use Rattle.cnf.specs.Clauses.{value_of, Right, Assignment, positive, negative}
use Rattle.pairs.specs.Pairs.{pairs, variable_of}
use Rattle.pairs.specs.Triangles.{together, apart}
use Rattle.pairs.proofs.Pairs.{variable_sym, variable-below}
use Rattle.clauses_spec.specs.Clauses.{premise}
use Rattle.clauses_spec.proofs.Tidy.{HasRight, Set}

-- what a literal says
pub right_positive : (v : List ℕ) (x : ℕ) → Right v (positive x) → value_of v x ≡ 1
right_positive v x r = omega (arith, ap (value_of v) (let e : 2 * x / 2 ≡ x = omega arith in e))

pub positive-right : (v : List ℕ) (x : ℕ) → value_of v x ≡ 1 → Right v (positive x)
positive-right v x e = omega (arith, ap (value_of v) (let e : 2 * x / 2 ≡ x = omega arith in e))

pub right-negative : (v : List ℕ) (x : ℕ) → Right v (negative x) → value_of v x ≡ 0
right-negative v x r = omega (arith, ap (value_of v) (let e : (2 * x + 1) / 2 ≡ x = omega arith in e))

pub negative-right : (v : List ℕ) (x : ℕ) → value_of v x ≡ 0 → Right v (negative x)
negative-right v x e = omega (arith, ap (value_of v) (let e : (2 * x + 1) / 2 ≡ x = omega arith in e))

module _ (n : ℕ) (v : List ℕ) where
  -- "true means joined"; "Pair {p,p} counts as true"
  pub record Related (p q : ℕ) : Type 0 where
    pub left : p < n
    pub right : q < n
    pub joined : (p ≡ q) ⊎ (value_of v (variable_of p q) ≡ 1)

  pub related_refl : {p : ℕ} → p < n → Related p p
  related_refl l = record { left = l; right = l; joined = inl refl }

  pub related_sym : {p q : ℕ} → Related p q → Related q p
  related_sym {p} {q} h = record { left = h.right; right = h.left; joined = go h.joined }
    where
      go : (p ≡ q) ⊎ (value_of v (variable_of p q) ≡ 1) → (q ≡ p) ⊎ (value_of v (variable_of q p) ≡ 1)
      go (inl e) = inl (sym e)
      go (inr e) = inr (ap (value_of v) (variable_sym q p) ∙ e)

  pub related_true : {p q : ℕ} → Related p q → p ≢ q → value_of v (variable_of p q) ≡ 1
  related_true {p} {q} h d = go h.joined
    where
      go : (p ≡ q) ⊎ (value_of v (variable_of p q) ≡ 1) → value_of v (variable_of p q) ≡ 1
      go (inl e) = absurd (d e)
      go (inr e) = e

  -- ---- under an assignment of the variables of n states

  module _ (full : Assignment (pairs n) v) where
    pub variable-bit : {p q : ℕ} → p < n → q < n → p ≢ q → value_of v (variable_of p q) < 2
    variable-bit {p} {q} a b d = full.bit (variable_of p q) (variable-below n p q a b d)

    pub related_dec : {p q : ℕ} → p < n → q < n → Related p q ⊎ ((p ≢ q) × (value_of v (variable_of p q) ≡ 0))
    related_dec {p} {q} a b = go (ℕ_discrete p q) (ℕ_discrete (value_of v (variable_of p q)) 1)
      where
        go : Dec (p ≡ q) → Dec (value_of v (variable_of p q) ≡ 1) → Related p q ⊎ ((p ≢ q) × (value_of v (variable_of p q) ≡ 0))
        go (yes e) d = inl (record { left = a; right = b; joined = inl e })
        go (no d) (yes e) = inl (record { left = a; right = b; joined = inr e })
        go (no d) (no e) = inr (d, omega (arith, variable-bit a b d))

    -- ---- a premise

    pub set_apart : {p q : ℕ} → p < n → q < n → p ≢ q → value_of v (apart p q / 2) < 2
    set_apart {p} {q} a b d = let e : (2 * variable_of p q + 1) / 2 ≡ variable_of p q = omega arith in omega (arith, ap (value_of v) e, variable-bit a b d)

    pub set-together : {p q : ℕ} → p < n → q < n → p ≢ q → value_of v (together p q / 2) < 2
    set-together {p} {q} a b d = let e : 2 * variable_of p q / 2 ≡ variable_of p q = omega arith in omega (arith, ap (value_of v) e, variable-bit a b d)

    pub premise-set : {p q : ℕ} → p < n → q < n → Set v (premise p q)
    unfolding premise
    premise-set {p} {q} a b l m = go (eqb p q) refl m
      where
        go : (t : Bool) → eqb p q ≡ t → Memᴰ l (elim t [ true ↦ [] | false ↦ apart p q ∷ [] ]) → value_of v (l / 2) < 2
        go true e k = absurd (not-nil k)
        go false e k = let f = eq_of_singleton k in omega (arith, ap (λ x. value_of v (x / 2)) f, set_apart a b (eqb-false p q e))

  -- a related pair's premise has no right literal, and any other pair's has one
  pub premise_related : {p q : ℕ} → Related p q → HasRight v (premise p q) → ⊥
  unfolding premise
  premise_related {p} {q} h (l, m, r) = go (eqb p q) refl m
    where
      go : (t : Bool) → eqb p q ≡ t → Memᴰ l (elim t [ true ↦ [] | false ↦ apart p q ∷ [] ]) → ⊥
      go true e k = not-nil k
      go false e k = omega (arith, right-negative v (variable_of p q) (subst (λ (x : ℕ). Right v x) (eq_of_singleton k) r), related_true h (eqb-false p q e))

  pub premise-apart : {p q : ℕ} → p ≢ q → value_of v (variable_of p q) ≡ 0 → HasRight v (premise p q)
  unfolding premise
  premise-apart {p} {q} d e = rw (ne_eqb p q d, premise) (apart p q, Memᴰ.head refl, negative-right v (variable_of p q) e)
