-- Laws on the weights of a clause's literals, and for the walk that adds them up. Assumes nothing.
use mathlib.Core.Path.{◌≡◌, refl, sym, ap, ◌∙◌}
use mathlib.Core.Logic.{◌≢◌}
use mathlib.Core.Bool.{Bool, true, false}
use mathlib.Core.List.{List, [], ◌∷◌, Memᴰ}
use Prim.Native.Nat.{ℕ, suc, ◌+◌, ◌*◌, ◌/◌, ◌%◌, ◌≤◌, ◌<◌}
use native.Mathlib.Omega.{arith}
use lib.ListN.{length, get_or, drop, drop_of_length-le}
use borrow.Author.Tests.{eqb-true, eqb-false, eq-eqb, ne_eqb}
use Rattle.lists.proofs.Members.{get_d_mem, get_d_any, one_on}
use Rattle.cnf.specs.Clauses.{value_of}
use Rattle.sat_literal.specs.Literals.{Over}
use Rattle.sat_counters.specs.Counters.{weight, is_false, weigh}

-- ---- a literal

pub false_is : (v : List ℕ) (l : ℕ) → is_false v l ≡ true → value_of v (l / 2) ≡ l % 2
unfolding is_false
false_is v l e = eqb-true _ _ e

pub false_of : (v : List ℕ) (l : ℕ) → value_of v (l / 2) ≡ l % 2 → is_false v l ≡ true
unfolding is_false
false_of v l e = eq-eqb _ _ e

pub left_is : (v : List ℕ) (l : ℕ) → is_false v l ≡ false → value_of v (l / 2) ≢ l % 2
unfolding is_false
left_is v l e = eqb-false _ _ e

pub false-not : (v : List ℕ) (l : ℕ) → value_of v (l / 2) ≢ l % 2 → is_false v l ≡ false
unfolding is_false
false-not v l n = ne_eqb _ _ n

-- ---- a clause

pub weigh-nil : (v : List ℕ) → weigh v [] ≡ 0
unfolding weigh
weigh-nil v = refl

pub weigh-false : (v : List ℕ) (l : ℕ) (ls : List ℕ) → is_false v l ≡ true → weigh v (l ∷ ls) ≡ weigh v ls
unfolding weigh
weigh-false v l ls e = rw (e, weigh)

pub weigh-left : (v : List ℕ) (l : ℕ) (ls : List ℕ) → is_false v l ≡ false → weigh v (l ∷ ls) ≡ weight l + weigh v ls
unfolding weigh
weigh-left v l ls e = rw (e, weigh)

-- a literal weighs less than 4,096
pub weigh-small : (v ls : List ℕ) → ((l : ℕ) → Memᴰ l ls → l < 2048) → weigh v ls ≤ 4096 * length ls
weigh-small v [] h = omega (arith, weigh-nil v)
weigh-small v (l ∷ ls) h = go (is_false v l) refl (weigh-small v ls (λ m k. h m (Memᴰ.tail k)))
  where
    go : (t : Bool) → is_false v l ≡ t → weigh v ls ≤ 4096 * length ls → weigh v (l ∷ ls) ≤ 4096 * suc (length ls)
    go true e r = omega (arith, weigh-false v l ls e)
    go false e r = omega (arith, weigh-left v l ls e, h l (Memᴰ.head refl))

-- ---- adding up

-- the literals from place i on are still to be added
pub record Weighing (v ls : List ℕ) (sum i : ℕ) : Type 0 where
  pub inside : i ≤ length ls
  pub still : sum + weigh v (drop i ls) ≡ weigh v ls

pub weighing : (v ls : List ℕ) → Weighing v ls 0 0
weighing v ls = record { inside = omega arith; still = omega arith }

pub weighed : {v ls : List ℕ} {sum i : ℕ} → Weighing v ls sum i → length ls ≤ i → sum ≡ weigh v ls
weighed {v} {ls} {sum} {i} w h = omega (arith, w.still, ap (weigh v) (drop_of_length-le ls h), weigh-nil v)

module _ {v ls : List ℕ} {sum i : ℕ} (o : Over ls (length v)) (w : Weighing v ls sum i) (h : i < length ls) where
  pub variable-inside : get_or ls i 0 / 2 < length v
  variable-inside = o (get_or ls i 0) (get_d_mem ls i 0 h)

  value_at : {x : ℕ} → x ≡ get_or ls i 0 / 2 → value_of v (get_or ls i 0 / 2) ≡ get_or v x 0
  value_at e = get_d_any v (get_or ls i 0 / 2) 2 0 variable-inside ∙ ap (λ (j : ℕ). get_or v j 0) (sym e)

  pub weigh-past : {x : ℕ} → x ≡ get_or ls i 0 / 2 → get_or v x 0 ≡ get_or ls i 0 % 2 → Weighing v ls sum (i + 1)
  weigh-past e q =
      record {
        inside = omega arith;
        still = omega (arith, w.still, ap (weigh v) (one_on ls i h), weigh-false v (get_or ls i 0) (drop (i + 1) ls) (false_of v (get_or ls i 0) (value_at e ∙ q)));
      }

  left_here : {x : ℕ} → x ≡ get_or ls i 0 / 2 → get_or v x 0 ≢ get_or ls i 0 % 2 → sum + weight (get_or ls i 0) + weigh v (drop (i + 1) ls) ≡ weigh v ls
  left_here e n =
      omega (arith, w.still, ap (weigh v) (one_on ls i h), weigh-left v (get_or ls i 0) (drop (i + 1) ls) (false-not v (get_or ls i 0) (λ z. n (sym (value_at e) ∙ z))))

  pub weigh_it : {x : ℕ} → x ≡ get_or ls i 0 / 2 → get_or v x 0 ≢ get_or ls i 0 % 2 → Weighing v ls (sum + weight (get_or ls i 0)) (i + 1)
  weigh_it e n = record { inside = omega arith; still = left_here e n }

  pub sum-small : {x : ℕ} → x ≡ get_or ls i 0 / 2 → get_or v x 0 ≢ get_or ls i 0 % 2 → length v ≤ 780 → length ls ≤ 32768 → sum + weight (get_or ls i 0) < 4294967296
  sum-small e n few short = omega (arith, left_here e n, weigh-small v ls (λ l m. omega (arith, o l m)))
