-- The variables of n states are their pairs: how many there are, the formula and the way back, both ways. Assumes nothing.
use mathlib.Core.Path.{◌≡◌, refl, sym, ap, ◌∙◌}
use mathlib.Core.Logic.{◌≢◌}
use mathlib.Core.Bool.{Bool, true, false}
use Prim.Native.Nat.{ℕ, zero, suc, ◌+◌, ◌-◌, ◌*◌, ◌≤◌, ◌<◌}
use native.Mathlib.Omega.{arith}
use lib.Dec.{eqb, ltb}
use borrow.Author.Tests.{eqb-true, eqb-false, ltb-true, ltb-false, lt-ltb}
use Rattle.limits.specs.declared.Limits.{Limits}
use Rattle.limits.specs.Limits.{state_most, limits_fit}
use Rattle.limits.proofs.Within.{limits-within}
use Rattle.pairs.specs.Pairs.{pairs, variable_of, pair_from, pair_of}

-- ---- how many pairs there are

less_one : (m : ℕ) → suc m - 1 ≡ m
less_one m = omega arith

pub pairs-suc : (n : ℕ) → pairs (suc n) ≡ pairs n + n
unfolding pairs
pairs-suc zero = refl
pairs-suc (suc m) = rw (less_one (suc m), less_one m) (omega arith)

pub pairs_mono : (m n : ℕ) → m ≤ n → pairs m ≤ pairs n
pairs_mono m zero h = let e : m ≡ 0 = omega arith in omega (arith, ap pairs e)
pairs_mono m (suc n) h = go (eqb m (suc n)) refl (pairs_mono m n)
  where
    go : (t : Bool) → eqb m (suc n) ≡ t → (m ≤ n → pairs m ≤ pairs n) → pairs m ≤ pairs (suc n)
    go true e ih = omega (arith, ap pairs (eqb-true m (suc n) e))
    go false e ih = omega (arith, pairs-suc n, ih (omega (arith, eqb-false m (suc n) e)))

-- "Variables reach 779" (document 02, request (xiii))
pub most-pairs : (n : ℕ) → n ≤ state_most → pairs n ≤ 780
unfolding pairs
most-pairs n h = pairs_mono n state_most h

pub few-pairs : (L : Limits) → limits_fit L ≡ true → pairs L.states ≤ 780
few-pairs L e = most-pairs L.states (limits-within e).states

-- ---- the formula

-- the formula, with the lower state first
pub variable-lt : (p q : ℕ) → p < q → variable_of p q ≡ pairs q + p
unfolding variable_of
variable-lt p q l = rw (lt-ltb p q l, variable_of)

pub variable_sym : (p q : ℕ) → variable_of p q ≡ variable_of q p
unfolding variable_of
variable_sym p q = go (ltb p q) (ltb q p) refl refl
  where
    go : (s t : Bool) → ltb p q ≡ s → ltb q p ≡ t → ◌≡◌ {A = ℕ} (elim s [ true ↦ pairs q + p | false ↦ pairs p + q ]) (elim t [ true ↦ pairs p + q | false ↦ pairs q + p ])
    go true true a b = absurd (omega (arith, ltb-true p q a, ltb-true q p b))
    go true false a b = refl
    go false true a b = refl
    go false false a b = let e : p ≡ q = omega (arith, ltb-false p q a, ltb-false q p b) in rw e

-- what holds of every pair p < q and does not mind its order holds of any two different states
pub in_order : (P : ℕ → ℕ → Type 0) → ((p q : ℕ) → P p q → P q p) → ((p q : ℕ) → p < q → P p q) → (p q : ℕ) → p ≢ q → P p q
in_order P turn h p q d = go (ltb p q) refl
  where
    go : (t : Bool) → ltb p q ≡ t → P p q
    go true e = h p q (ltb-true p q e)
    go false e = turn q p (h q p (omega (arith, ltb-false p q e)))

-- two different states of n have one of the variables
pub variable-below : (n p q : ℕ) → p < n → q < n → p ≢ q → variable_of p q < pairs n
variable-below n p q a b d = go (ltb p q) refl
  where
    lower : (p q : ℕ) → p < q → q < n → variable_of p q < pairs n
    lower p q l h = omega (arith, variable-lt p q l, pairs-suc q, pairs_mono (suc q) n (omega arith))

    go : (t : Bool) → ltb p q ≡ t → variable_of p q < pairs n
    go true e = lower p q (ltb-true p q e) b
    go false e = rw (variable_sym p q) (lower q p (omega (arith, ltb-false p q e)) a)

-- the formula gives each pair a variable of its own
pub pairs-apart : (q s p r : ℕ) → p < q → r < s → pairs q + p ≡ pairs s + r → q ≡ s
pairs-apart q s p r a b e = go (ltb q s) (ltb s q) refl refl
  where
    go : (x y : Bool) → ltb q s ≡ x → ltb s q ≡ y → q ≡ s
    go true y f g = absurd (omega (arith, ltb-true q s f, pairs-suc q, pairs_mono (suc q) s (omega (arith, ltb-true q s f))))
    go false true f g = absurd (omega (arith, ltb-true s q g, pairs-suc s, pairs_mono (suc s) q (omega (arith, ltb-true s q g))))
    go false false f g = omega (arith, ltb-false q s f, ltb-false s q g)

pub variable_injective : (p q r s : ℕ) → p < q → r < s → variable_of p q ≡ variable_of r s → (p ≡ r) × (q ≡ s)
variable_injective p q r s a b e =
    let f : pairs q + p ≡ pairs s + r = sym (variable-lt p q a) ∙ e ∙ variable-lt r s b in
    let g = pairs-apart q s p r a b f in
    (omega (arith, ap pairs g), g)

-- ---- the way back

-- r more than the pairs of q, at most r states on
pair-from : (k q r : ℕ) → 1 ≤ q → r ≤ k → ((pair_from k q r).low < (pair_from k q r).high) × (pairs (pair_from k q r).high + (pair_from k q r).low ≡ pairs q + r)
unfolding pair_from
pair-from zero q r h l = (omega arith, refl)
pair-from (suc k) q r h l = go (ltb r q) refl (pair-from k (suc q) (r - q) (omega arith))
  where
    go : (t : Bool) → ltb r q ≡ t
        → (r - q ≤ k → ((pair_from k (suc q) (r - q)).low < (pair_from k (suc q) (r - q)).high) × (pairs (pair_from k (suc q) (r - q)).high + (pair_from k (suc q) (r - q)).low ≡ pairs (suc q) + (r - q)))
        → ((pair_from (suc k) q r).low < (pair_from (suc k) q r).high) × (pairs (pair_from (suc k) q r).high + (pair_from (suc k) q r).low ≡ pairs q + r)
    go true e ih = rw (e, pair_from) (ltb-true r q e, refl)
    go false e ih = let j = ih (omega (arith, ltb-false r q e)) in rw (e, pair_from) (j.0, j.1 ∙ omega (arith, pairs-suc q, ltb-false r q e))

-- from a variable to its pair, and back to the variable
pub pair-ordered : (v : ℕ) → (pair_of v).low < (pair_of v).high
unfolding pair_of
pair-ordered v = (pair-from v 1 v (omega arith) (omega arith)).0

pub variable-pair : (v : ℕ) → variable_of (pair_of v).low (pair_of v).high ≡ v
unfolding pair_of pairs
variable-pair v = variable-lt (pair_of v).low (pair_of v).high (pair-ordered v) ∙ (pair-from v 1 v (omega arith) (omega arith)).1 ∙ omega arith

-- from a pair to its variable, and back to the pair
pub pair-variable : (p q : ℕ) → p < q → ((pair_of (variable_of p q)).low ≡ p) × ((pair_of (variable_of p q)).high ≡ q)
pair-variable p q l = variable_injective (pair_of (variable_of p q)).low (pair_of (variable_of p q)).high p q (pair-ordered (variable_of p q)) l (variable-pair (variable_of p q))

-- a variable of n states is a pair of them
pub pair-below : (n v : ℕ) → v < pairs n → (pair_of v).high < n
pair-below n v h = go (ltb (pair_of v).high n) refl
  where
    go : (t : Bool) → ltb (pair_of v).high n ≡ t → (pair_of v).high < n
    go true e = ltb-true (pair_of v).high n e
    go false e = absurd (omega (arith, variable-lt (pair_of v).low (pair_of v).high (pair-ordered v), variable-pair v, pairs_mono n (pair_of v).high (ltb-false (pair_of v).high n e)))

-- ---- states that are bytes

pub pairs_byte : (n : ℕ) → n < 256 → pairs n ≤ 32385
unfolding pairs
pairs_byte n h = pairs_mono n 255 (omega arith)

pub product_byte : (n : ℕ) → n < 256 → n * (n - 1) < 65536
unfolding pairs
product_byte n h = omega (arith, pairs_byte n h)

pub variable_byte : (p q : ℕ) → p < 256 → q < 256 → variable_of p q ≤ 32640
variable_byte p q h k = go (ltb p q) refl
  where
    go : (t : Bool) → ltb p q ≡ t → variable_of p q ≤ 32640
    go true e = omega (arith, variable-lt p q (ltb-true p q e), pairs_byte q k)
    go false e = omega (arith, pairs_byte p h, turned)
      where
        turned : variable_of p q ≡ pairs p + q
        turned = unfold variable_of in rw (e, variable_of)
