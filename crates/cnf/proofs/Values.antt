-- Values of the variables: literals that are unset or wrong under them, values that extend others, stores, and the number of unset ones.
-- Assumes nothing.
use mathlib.Core.Path.{◌≡◌, refl, sym, ap, ◌∙◌}
use mathlib.Core.Logic.{◌⊎◌, inl, inr, ◌≢◌}
use mathlib.Core.Bool.{Bool, true, false}
use mathlib.Core.List.{List, [], ◌∷◌}
use Prim.Native.Nat.{ℕ, zero, suc, ◌-◌, ◌/◌, ◌%◌, ◌≤◌, ◌<◌, zero-le, suc-le-suc}
use native.Mathlib.Nat.{le_trans, le-suc}
use native.Mathlib.Omega.{arith}
use native.Mathlib.Decide.{ℕ_discrete}
use lib.ListN.{length, set, replicate, length-set, length-replicate}
use lib.Seq.{ext_get_or}
use lib.Dec.{eqb}
use borrow.Author.Tests.{eq-eqb, ne_eqb}
use Rattle.cnf.specs.Clauses.{value_of, Right}
use Rattle.cnf.specs.Closing.{Values, Wrong, ◌⊑◌, unset_count}

-- ---- values that extend others

pub ⊑_refl : (v : List ℕ) → v ⊑ v
⊑_refl v = record { keeps = λ i h. refl }

pub ⊑_trans : {u v w : List ℕ} → u ⊑ v → v ⊑ w → u ⊑ w
⊑_trans p q = record { keeps = λ i h. q.keeps i (λ e. h (sym (p.keeps i h) ∙ e)) ∙ p.keeps i h }

pub ⊑-antisym : (u w : List ℕ) → length u ≡ length w → u ⊑ w → w ⊑ u → u ≡ w
⊑-antisym u w e p q = ext_get_or 2 u w e (λ i l. go i (ℕ_discrete (value_of u i) 2) (ℕ_discrete (value_of w i) 2))
  where
    go : (i : ℕ) → Dec (value_of u i ≡ 2) → Dec (value_of w i ≡ 2) → value_of u i ≡ value_of w i
    go i (no h) d = sym (p.keeps i h)
    go i (yes e) (no h) = q.keeps i h
    go i (yes e) (yes h) = e ∙ sym h

pub wrong_more : {v w : List ℕ} {l : ℕ} → v ⊑ w → Wrong v l → Wrong w l
wrong_more {v} {w} {l} p h = let e = p.keeps (l / 2) h.is_set in record { is_set = λ z. h.is_set (sym e ∙ z); is_not = omega arith }

-- the value that a right literal's variable has
pub right_value : (a : List ℕ) (l : ℕ) → Right a l → value_of a (l / 2) ≡ 1 - l % 2
right_value a l r = omega arith

-- ---- stores

-- what stands at i after a store at x
pub set_cases : (v : List ℕ) (x k i : ℕ) → ((i ≡ x) × (value_of (set v x k) i ≡ k)) ⊎ (value_of (set v x k) i ≡ value_of v i)
set_cases [] x k i = inr refl
set_cases (y ∷ ys) zero k zero = inl (refl, refl)
set_cases (y ∷ ys) zero k (suc i) = inr refl
set_cases (y ∷ ys) (suc x) k zero = inr refl
set_cases (y ∷ ys) (suc x) k (suc i) = go (set_cases ys x k i)
  where
    go : ((i ≡ x) × (value_of (set ys x k) i ≡ k)) ⊎ (value_of (set ys x k) i ≡ value_of ys i) → ((suc i ≡ suc x) × (value_of (set ys x k) i ≡ k)) ⊎ (value_of (set ys x k) i ≡ value_of ys i)
    go (inl p) = inl (ap suc p.0, p.1)
    go (inr p) = inr p

-- a store where nothing is set
pub set_more : (v : List ℕ) (x k : ℕ) → value_of v x ≡ 2 → v ⊑ set v x k
set_more v x k o = record { keeps = λ i h. go i h (set_cases v x k i) }
  where
    go : (i : ℕ) → value_of v i ≢ 2 → ((i ≡ x) × (value_of (set v x k) i ≡ k)) ⊎ (value_of (set v x k) i ≡ value_of v i) → value_of (set v x k) i ≡ value_of v i
    go i h (inl p) = absurd (h (ap (value_of v) p.0 ∙ o))
    go i h (inr p) = p

-- a store of what w has
pub set_below_lem : (v w : List ℕ) (x k : ℕ) → v ⊑ w → value_of w x ≡ k → set v x k ⊑ w
set_below_lem v w x k p e = record { keeps = λ i h. go i h (set_cases v x k i) }
  where
    go : (i : ℕ) → value_of (set v x k) i ≢ 2 → ((i ≡ x) × (value_of (set v x k) i ≡ k)) ⊎ (value_of (set v x k) i ≡ value_of v i) → value_of w i ≡ value_of (set v x k) i
    go i h (inl q) = ap (value_of w) q.0 ∙ e ∙ sym q.1
    go i h (inr q) = p.keeps i (λ z. h (q ∙ z)) ∙ sym q

pub set_values : (n : ℕ) (v : List ℕ) (x k : ℕ) → k ≤ 2 → Values n v → Values n (set v x k)
set_values n v x k h w = record { long = length-set v x k ∙ w.long; small = λ i. go i (set_cases v x k i) }
  where
    go : (i : ℕ) → ((i ≡ x) × (value_of (set v x k) i ≡ k)) ⊎ (value_of (set v x k) i ≡ value_of v i) → value_of (set v x k) i ≤ 2
    go i (inl p) = omega arith
    go i (inr p) = omega (arith, w.small i)

-- ---- nothing set

pub none-set : (n i : ℕ) → value_of (replicate n 2) i ≡ 2
none-set zero i = refl
none-set (suc n) zero = refl
none-set (suc n) (suc i) = none-set n i

pub none_below : (n : ℕ) (u : List ℕ) → replicate n 2 ⊑ u
none_below n u = record { keeps = λ i h. absurd (h (none-set n i)) }

pub start-values : (n : ℕ) → Values n (replicate n 2)
start-values n = record { long = length-replicate n 2; small = λ i. omega (arith, none-set n i) }

-- ---- how many values are unset

pub unset-le : (v : List ℕ) → unset_count v ≤ length v
unfolding unset_count
unset-le [] = zero-le
unset-le (x ∷ xs) = go (eqb x 2) (unset-le xs)
  where
    go : (t : Bool) → unset_count xs ≤ length xs → elim t as (λ _. ℕ) [ true ↦ suc (unset_count xs) | false ↦ unset_count xs ] ≤ suc (length xs)
    go true h = suc-le-suc h
    go false h = le_trans h (le-suc _)

-- a store where nothing was set
pub unset_set : (v : List ℕ) (x k : ℕ) → x < length v → value_of v x ≡ 2 → k ≢ 2 → suc (unset_count (set v x k)) ≡ unset_count v
unfolding unset_count
unset_set [] x k h o p = absurd (omega arith)
unset_set (y ∷ ys) zero k h o p = rw (eq-eqb y 2 o, ne_eqb k 2 p, unset_count)
unset_set (y ∷ ys) (suc x) k h o p = go (eqb y 2) (unset_set ys x k (omega arith) o p)
  where
    go :
        (t : Bool) → suc (unset_count (set ys x k)) ≡ unset_count ys
        → suc (elim t as (λ _. ℕ) [ true ↦ suc (unset_count (set ys x k)) | false ↦ unset_count (set ys x k) ]) ≡ elim t as (λ _. ℕ) [ true ↦ suc (unset_count ys) | false ↦ unset_count ys ]
    go true e = ap suc e
    go false e = e

pub unset-start : (n : ℕ) → unset_count (replicate n 2) ≡ n
unfolding unset_count
unset-start zero = refl
unset-start (suc n) = ap suc (unset-start n)
