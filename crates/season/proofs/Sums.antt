-- Lengths that add up: what is left of the buffer after those so far, and a law for each way through the loop. Assumes nothing.
use mathlib.Core.Path.{◌≡◌, refl, sym, ap, ◌∙◌}
use mathlib.Core.Bool.{Bool, true, false}
use mathlib.Core.List.{List}
use Prim.Native.Nat.{ℕ, ◌+◌, ◌-◌, ◌≤◌, ◌<◌}
use native.Mathlib.Numerals.{add-one}
use native.Mathlib.Omega.{arith}
use lib.ListN.{length, get_or, drop, drop_of_length-le}
use lib.Seq.{drop-cons}
use lib.Dec.{eqb}
use borrow.Author.Tests.{leb-true, le-leb, eqb-true, eqb-false, eq-eqb, ne_eqb}
use Rattle.lists.specs.Lists.{sum}
use Rattle.lists.proofs.Members.{and-true}
use Rattle.season_spec.specs.Seasons.{lengths_fit}

-- the first length after i, and the others
pub sum-next : (xs : List ℕ) (i : ℕ) → i < length xs → sum (drop i xs) ≡ get_or xs i 0 + sum (drop (i + 1) xs)
unfolding sum
sum-next xs i h = ap sum (drop-cons xs i 0 h) ∙ ap (λ (k : ℕ). get_or xs i 0 + sum (drop k xs)) (sym (add-one i))

pub sum-none : (xs : List ℕ) (i : ℕ) → length xs ≤ i → sum (drop i xs) ≡ 0
unfolding sum
sum-none xs i h = ap sum (drop_of_length-le xs h)

-- what it says that the lengths fit
pub record Fitting (all : ℕ) (lengths : List ℕ) : Type 0 where
  pub some : 1 ≤ length lengths
  pub few : length lengths ≤ 8
  pub whole : sum lengths ≡ all

pub fitting : (all : ℕ) (lengths : List ℕ) → lengths_fit all lengths ≡ true → Fitting all lengths
unfolding lengths_fit
fitting all lengths e =
    let a = and-true _ _ e in
    let b = and-true _ _ a.0 in
    record { some = leb-true _ _ b.0; few = leb-true _ _ b.1; whole = eqb-true _ _ a.1 }

refuted : (t : Bool) → (t ≡ true → ⊥) → false ≡ t
refuted true f = absurd (f refl)
refuted false f = refl

pub too_few : (all : ℕ) (lengths : List ℕ) → length lengths < 1 → false ≡ lengths_fit all lengths
too_few all lengths h = refuted _ (λ e. let f = fitting all lengths e in omega arith)

pub too_many : (all : ℕ) (lengths : List ℕ) → 8 < length lengths → false ≡ lengths_fit all lengths
too_many all lengths h = refuted _ (λ e. let f = fitting all lengths e in omega arith)

-- of all the bytes so many are left after the first i lengths
pub record Lefts (all : ℕ) (lengths : List ℕ) (left i : ℕ) : Type 0 where
  pub some : 1 ≤ length lengths
  pub few : length lengths ≤ 8
  pub within : i ≤ length lengths
  pub left_of : sum lengths + left ≡ sum (drop i lengths) + all

pub begin_lefts : (all : ℕ) (lengths : List ℕ) → 1 ≤ length lengths → length lengths ≤ 8 → Lefts all lengths all 0
begin_lefts all lengths h k = record { some = h; few = k; within = omega arith; left_of = refl }

pub next-left : {all left i : ℕ} {lengths : List ℕ} → Lefts all lengths left i → i < length lengths → get_or lengths i 0 ≤ left → Lefts all lengths (left - get_or lengths i 0) (i + 1)
next-left {all} {left} {i} {lengths} s h k = record { some = s.some; few = s.few; within = omega arith; left_of = omega (arith, s.left_of, sum-next lengths i h) }

pub too_long : {all left i : ℕ} {lengths : List ℕ} → Lefts all lengths left i → i < length lengths → left < get_or lengths i 0 → false ≡ lengths_fit all lengths
too_long {all} {left} {i} {lengths} s h k = refuted _ (λ e. let f = fitting all lengths e in omega (arith, s.left_of, f.whole, sum-next lengths i h))

pub left_over : {all left i : ℕ} {lengths : List ℕ} → Lefts all lengths left i → length lengths ≤ i → eqb left 0 ≡ lengths_fit all lengths
unfolding lengths_fit
left_over {all} {left} {i} {lengths} s h =
    rw (le-leb _ _ s.some, le-leb _ _ s.few) (go (eqb left 0) refl)
  where
    go : (t : Bool) → eqb left 0 ≡ t → t ≡ eqb (sum lengths) all
    go true e = let f = eqb-true left 0 e in sym (eq-eqb (sum lengths) all (omega (arith, s.left_of, sum-none lengths i h)))
    go false e = let f = eqb-false left 0 e in sym (ne_eqb (sum lengths) all (λ q. f (omega (arith, s.left_of, sum-none lengths i h))))
