-- The numbering of a map and its class count, state by state. Assumes nothing.
use mathlib.Core.Path.{◌≡◌, refl, sym, ap, ◌∙◌}
use mathlib.Core.Bool.{true, false, ◌&&◌}
use mathlib.Core.List.{List, [], ◌∷◌}
use Prim.Native.Nat.{ℕ, zero, suc, ◌+◌, ◌<◌, ◌≤◌, max}
use native.Mathlib.Omega.{arith}
use native.Mathlib.Decide.{dec_lt}
use lib.ListN.{length, get_or, drop, drop_of_length-le, get_or-eq_default}
use lib.Dec.{leb}
use borrow.Author.Tests.{leb-true, le-leb, lt-leb}
use Rattle.lists.proofs.Members.{and-true, one_on}
use Rattle.table_spec.specs.Maps.{class_of, classes, numbered_from, numbered}

pub class-below : (m : List ℕ) (q : ℕ) → q < length m → class_of m q < classes m
unfolding classes
class-below [] q h = absurd (omega arith)
class-below (c ∷ m) zero h = omega arith
class-below (c ∷ m) (suc q) h = omega (arith, class-below m q (omega arith))

-- every class number is below a bound on the classes, past the map's end too
pub class-under : (m : List ℕ) {k : ℕ} → classes m ≤ k → 0 < k → (q : ℕ) → class_of m q < k
class-under m {k} h p q = go (dec_lt q (length m))
  where
    go : Dec (q < length m) → class_of m q < k
    go (yes l) = omega (arith, class-below m q l)
    go (no l) = omega (arith, get_or-eq_default m 0 {n = q} (omega arith))

-- a properly numbered map has no more classes than states
classes-from : (next : ℕ) (m : List ℕ) → numbered_from next m ≡ true → classes m ≤ next + length m
unfolding numbered_from classes
classes-from next [] e = omega arith
classes-from next (x ∷ m) e = omega (arith, leb-true x next (and-true _ _ e).0, classes-from (max next (suc x)) m (and-true (leb x next) _ e).1)

pub classes-few : (m : List ℕ) → numbered m ≡ true → classes m ≤ length m
unfolding numbered
classes-few m e = omega (arith, classes-from 0 m e)

-- ---- the numbering: the states from q on, where next is the number of a new class

pub record Numbering (m : List ℕ) (next q : ℕ) : Type 0 where
  pub few : next ≤ q
  pub meets : numbered m ≡ numbered_from next (drop q m)

pub numbering : (m : List ℕ) → Numbering m 0 0
unfolding numbered
numbering m = record { few = omega arith; meets = refl }

module _ {m : List ℕ} {next q c : ℕ} (w : Numbering m next q) (h : q < length m) (e : c ≡ get_or m q 0) where
  turn : numbered m ≡ (leb c next && numbered_from (max next (suc c)) (drop (q + 1) m))
  unfolding numbered_from
  turn = w.meets ∙ ap (numbered_from next) (one_on m q h) ∙ λ i. leb (sym e i) next && numbered_from (max next (suc (sym e i))) (drop (q + 1) m)

  pub number_past : next < c → false ≡ numbered m
  number_past l = sym (turn ∙ rw (lt-leb _ _ l))

  pub number_on : {more : ℕ} → c ≤ next → more ≡ max next (c + 1) → Numbering m more (q + 1)
  number_on {more} l n = record { few = omega (arith, w.few); meets = turn ∙ λ i. one i && numbered_from (new i) (drop (q + 1) m) }
    where
      one : leb c next ≡ true
      one = le-leb c next l

      new : max next (suc c) ≡ more
      new = omega arith

pub numbered-all : {m : List ℕ} {next q : ℕ} → Numbering m next q → length m ≤ q → true ≡ numbered m
unfolding numbered_from
numbered-all {m} {next} {q} w h = sym (w.meets ∙ ap (numbered_from next) (drop_of_length-le m h))

-- ---- the class count: n so far

pub record Classing (m : List ℕ) (n q : ℕ) : Type 0 where
  pub few : n ≤ 256
  pub meets : classes m ≡ max n (classes (drop q m))

pub classing : (m : List ℕ) → Classing m 0 0
classing m = record { few = omega arith; meets = omega arith }

module _ {m : List ℕ} {n q c : ℕ} (w : Classing m n q) (h : q < length m) (e : c ≡ get_or m q 0) where
  each : classes m ≡ max n (max (suc c) (classes (drop (q + 1) m)))
  unfolding classes
  each = w.meets ∙ ap (λ k. max n (classes k)) (one_on m q h) ∙ λ i. max n (max (suc (sym e i)) (classes (drop (q + 1) m)))

  pub class_on : {more : ℕ} → c < 256 → more ≡ max n (c + 1) → Classing m more (q + 1)
  class_on b l = record { few = omega (arith, w.few); meets = omega (arith, each) }

pub classed_all : {m : List ℕ} {n q : ℕ} → Classing m n q → length m ≤ q → n ≡ classes m
unfolding classes
classed_all {m} {n} {q} w h = omega (arith, w.meets, ap classes (drop_of_length-le m h))
