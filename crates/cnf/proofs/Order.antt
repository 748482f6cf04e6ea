-- Unit steps in any order: each sets a literal that some clause forces. They stay below all values at rest that extend the first ones.
-- Assumes nothing.
use mathlib.Core.Path.{◌≡◌, refl, ap, ◌∙◌, subst}
use mathlib.Core.Logic.{◌⊎◌, inl, inr}
use mathlib.Core.Bool.{true}
use mathlib.Core.List.{List, Memᴰ}
use Prim.Native.Nat.{ℕ, ◌-◌, ◌/◌, ◌%◌}
use native.Mathlib.Omega.{arith}
use lib.ListN.{length, length-set}
use Rattle.lists.proofs.Members.{filter-mem, filter-length}
use Rattle.cnf.specs.Clauses.{value_of, Right}
use Rattle.cnf.specs.Search.{broken, forcing, is_unset}
use Rattle.cnf.specs.Closing.{Values, Wrong, ◌⊑◌, Found, Settled, holds, waits, UnitSteps, stay, more, AtRest}
use Rattle.cnf.proofs.Values.{⊑_refl, ⊑_trans, wrong_more, set_more, set_below_lem, set_values}
use Rattle.cnf.proofs.Found.{unset_is, unset_of}

pub units-more : (cs : List (List ℕ)) (v u : List ℕ) → UnitSteps cs v u → v ⊑ u
units-more cs v u stay = ⊑_refl v
units-more cs v u (more {w = t} l s f) = ⊑_trans (units-more cs v t s) (set_more t (l / 2) (1 - l % 2) f.2.free)

pub units_trans : {cs : List (List ℕ)} {u v w : List ℕ} → UnitSteps cs u v → UnitSteps cs v w → UnitSteps cs u w
units_trans p stay = p
units_trans p (more l s f) = more l (units_trans p s) f

pub units-length : (cs : List (List ℕ)) (v u : List ℕ) → UnitSteps cs v u → length u ≡ length v
units-length cs v u stay = refl
units-length cs v u (more {w = t} l s f) = length-set t (l / 2) (1 - l % 2) ∙ units-length cs v t s

pub units-values : (cs : List (List ℕ)) (n : ℕ) (v u : List ℕ) → UnitSteps cs v u → Values n v → Values n u
units-values cs n v u stay z = z
units-values cs n v u (more {w = t} l s f) z = set_values n t (l / 2) (1 - l % 2) (omega arith) (units-values cs n v t s z)

-- where a clause forces l under v, l is right in all values at rest that extend v
pub forced_right : (cs : List (List ℕ)) (v w : List ℕ) (l : ℕ) → v ⊑ w → Found v cs (forcing l) → AtRest cs w → Right w l
forced_right cs v w l p f q = go (q f.0 f.1)
  where
    c : List ℕ
    c = f.0

    pick : (k : ℕ) → Right w k → (k ≡ l) ⊎ Wrong v k → Right w l
    pick k r (inl e) = subst (λ (x : ℕ). Right w x) e r
    pick k r (inr h) = absurd ((wrong_more p h).is_not r)

    unset-before : (k : ℕ) → Memᴰ k c → is_unset w k ≡ true → is_unset v k ≡ true
    unset-before k m o = back (f.2.rest k m)
      where
        back : (k ≡ l) ⊎ Wrong v k → is_unset v k ≡ true
        back (inl e) = unset_of v k (ap (λ (x : ℕ). value_of v (x / 2)) e ∙ f.2.free)
        back (inr h) = absurd ((wrong_more p h).is_set (unset_is w k o))

    go : Settled w c → Right w l
    go (holds k m r) = pick k r (f.2.rest k m)
    go (waits k m ls e) = absurd (omega (arith, ap length e, filter-length (is_unset w) (is_unset v) c unset-before, f.2.single))

pub units-below : (cs : List (List ℕ)) (v u w : List ℕ) → UnitSteps cs v u → v ⊑ w → AtRest cs w → u ⊑ w
units-below cs v u w stay p q = p
units-below cs v u w (more {w = t} l s f) p q =
    let below = units-below cs v t w s p q in
    set_below_lem t w (l / 2) (1 - l % 2) below (omega (arith, forced_right cs t w l below f q))

-- nothing that values at rest extend breaks a clause
pub rest_unbroken : (cs : List (List ℕ)) (u w : List ℕ) → u ⊑ w → AtRest cs w → Found u cs broken → ⊥
rest_unbroken cs u w p q f = go (q f.0 f.1)
  where
    go : Settled w f.0 → ⊥
    go (holds k m r) = (wrong_more p (f.2 k m)).is_not r
    go (waits k m ls e) = let o = filter-mem (is_unset w) f.0 k (rw e (Memᴰ.head refl)) in (wrong_more p (f.2 k o.0)).is_set (unset_is w k o.1)
