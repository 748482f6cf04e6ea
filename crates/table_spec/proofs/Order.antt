-- The order of byte strings, and what it says that records ascend (document 01: "A section's records ascend strictly as byte strings").
-- The order is total on lists of any width. Assumes nothing.
use mathlib.Core.Path.{◌≡◌, refl, sym, ◌∙◌, subst}
use mathlib.Core.Logic.{◌⊎◌, inl, inr}
use mathlib.Core.Bool.{true, ◌&&◌, true≢false}
use mathlib.Core.List.Memᴰ.{cases_cons}
use mathlib.Core.List.Memᴰ.{not-nil}
use mathlib.Core.List.{List, [], ◌∷◌, Memᴰ}
use Prim.Native.Nat.{ℕ, zero, suc, ◌<◌}
use native.Mathlib.Omega.{arith}
use native.Mathlib.Decide.{dec_lt}
use lib.ListN.{length, get_or}
use lib.Dec.{eqb, ltb}
use borrow.Author.Tests.{ltb-true, lt-ltb, eqb-true, eq-eqb}
use Rattle.lists.proofs.Members.{and-true, and_of, or-true, or_left, or_right, get_d_mem}
use Rattle.table_spec.specs.Reading.{before, ascend_from, ascend}

-- ---- one before the other

-- by the first element, or by the others
pub first_cases : (x y : ℕ) (xs ys : List ℕ) → before (x ∷ xs) (y ∷ ys) ≡ true → (x < y) ⊎ ((x ≡ y) × (before xs ys ≡ true))
unfolding before
first_cases x y xs ys e = go (or-true _ _ e)
  where
    go : (ltb x y ≡ true) ⊎ ((eqb x y && before xs ys) ≡ true) → (x < y) ⊎ ((x ≡ y) × (before xs ys ≡ true))
    go (inl h) = inl (ltb-true x y h)
    go (inr h) = let p = and-true (eqb x y) (before xs ys) h in inr (eqb-true x y p.0, p.1)

pub by_first : (x y : ℕ) (xs ys : List ℕ) → x < y → before (x ∷ xs) (y ∷ ys) ≡ true
unfolding before
by_first x y xs ys h = or_left _ (lt-ltb x y h)

pub by_others : (x y : ℕ) (xs ys : List ℕ) → x ≡ y → before xs ys ≡ true → before (x ∷ xs) (y ∷ ys) ≡ true
unfolding before
by_others x y xs ys h k = or_right (ltb x y) (and_of (eq-eqb x y h) k)

pub before_irreflexive : (x : List ℕ) → before x x ≡ true → ⊥
unfolding before
before_irreflexive [] e = true≢false (sym e)
before_irreflexive (x ∷ xs) e = go (first_cases x x xs xs e) (before_irreflexive xs)
  where
    go : (x < x) ⊎ ((x ≡ x) × (before xs xs ≡ true)) → (before xs xs ≡ true → ⊥) → ⊥
    go (inl h) ih = omega arith
    go (inr h) ih = ih h.1

pub before-transitive : (x y z : List ℕ) → before x y ≡ true → before y z ≡ true → before x z ≡ true
unfolding before
before-transitive [] [] z e f = absurd (true≢false (sym e))
before-transitive [] (y ∷ ys) [] e f = absurd (true≢false (sym f))
before-transitive [] (y ∷ ys) (z ∷ zs) e f = refl
before-transitive (x ∷ xs) [] z e f = absurd (true≢false (sym e))
before-transitive (x ∷ xs) (y ∷ ys) [] e f = absurd (true≢false (sym f))
before-transitive (x ∷ xs) (y ∷ ys) (z ∷ zs) e f = go (first_cases x y xs ys e) (first_cases y z ys zs f) (before-transitive xs ys zs)
  where
    go : (x < y) ⊎ ((x ≡ y) × (before xs ys ≡ true)) → (y < z) ⊎ ((y ≡ z) × (before ys zs ≡ true)) → (before xs ys ≡ true → before ys zs ≡ true → before xs zs ≡ true) → before (x ∷ xs) (z ∷ zs) ≡ true
    go (inl h) (inl k) ih = by_first x z xs zs (omega arith)
    go (inl h) (inr k) ih = by_first x z xs zs (let q = k.0 in omega arith)
    go (inr h) (inl k) ih = by_first x z xs zs (let q = h.0 in omega arith)
    go (inr h) (inr k) ih = by_others x z xs zs (h.0 ∙ k.0) (ih h.1 k.1)

pub before_asymmetric : (x y : List ℕ) → before x y ≡ true → before y x ≡ true → ⊥
before_asymmetric x y e f = before_irreflexive x (before-transitive x y x e f)

pub before-total : (x y : List ℕ) → (before x y ≡ true) ⊎ ((before y x ≡ true) ⊎ (x ≡ y))
unfolding before
before-total [] [] = inr (inr refl)
before-total [] (y ∷ ys) = inl refl
before-total (x ∷ xs) [] = inr (inl refl)
before-total (x ∷ xs) (y ∷ ys) = go (dec_lt x y) (dec_lt y x) (before-total xs ys)
  where
    tails : x ≡ y → (before xs ys ≡ true) ⊎ ((before ys xs ≡ true) ⊎ (xs ≡ ys)) → (before (x ∷ xs) (y ∷ ys) ≡ true) ⊎ ((before (y ∷ ys) (x ∷ xs) ≡ true) ⊎ (◌≡◌ {A = List ℕ} (x ∷ xs) (y ∷ ys)))
    tails e (inl h) = inl (by_others x y xs ys e h)
    tails e (inr (inl h)) = inr (inl (by_others y x ys xs (sym e) h))
    tails e (inr (inr h)) = inr (inr (λ i. e i ∷ h i))

    go :
        Dec (x < y) → Dec (y < x) → (before xs ys ≡ true) ⊎ ((before ys xs ≡ true) ⊎ (xs ≡ ys))
        → (before (x ∷ xs) (y ∷ ys) ≡ true) ⊎ ((before (y ∷ ys) (x ∷ xs) ≡ true) ⊎ (◌≡◌ {A = List ℕ} (x ∷ xs) (y ∷ ys)))
    go (yes h) d t = inl (by_first x y xs ys h)
    go (no h) (yes k) t = inr (inl (by_first y x ys xs k))
    go (no h) (no k) t = tails (omega arith) t

-- ---- records that ascend

pub ascend-behind : (r : List ℕ) (rs : List (List ℕ)) → ascend_from r rs ≡ true → (s : List ℕ) → Memᴰ s rs → before r s ≡ true
unfolding ascend_from
ascend-behind r [] e s m = absurd (not-nil m)
ascend-behind r (q ∷ rs) e s m = go (and-true _ _ e) (cases_cons m) (ascend-behind q rs)
  where
    go : (before r q ≡ true) × (ascend_from q rs ≡ true) → (s ≡ q) ⊎ Memᴰ s rs → (ascend_from q rs ≡ true → (s : List ℕ) → Memᴰ s rs → before q s ≡ true) → before r s ≡ true
    go p (inl h) ih = rw h p.0
    go p (inr h) ih = before-transitive r q s p.0 (ih p.1 s h)

pub ascend-rest : (r : List ℕ) (rs : List (List ℕ)) → ascend_from r rs ≡ true → ascend rs ≡ true
unfolding ascend_from ascend
ascend-rest r [] e = refl
ascend-rest r (s ∷ rs) e = (and-true (before r s) (ascend_from s rs) e).1

-- a record before all of a list that ascends
pub ascend-cons : (r : List ℕ) (rs : List (List ℕ)) → ((s : List ℕ) → Memᴰ s rs → before r s ≡ true) → ascend rs ≡ true → ascend (r ∷ rs) ≡ true
unfolding ascend_from ascend
ascend-cons r [] h e = refl
ascend-cons r (s ∷ rs) h e = and_of (h s (Memᴰ.head refl)) e

-- the record at a smaller index is before the record at a larger one
pub ascend-before : (rs : List (List ℕ)) → ascend rs ≡ true → (i j : ℕ) → i < j → j < length rs → before (get_or rs i []) (get_or rs j []) ≡ true
unfolding ascend
ascend-before [] e i j h l = absurd (omega arith)
ascend-before (r ∷ rs) e i zero h l = absurd (omega arith)
ascend-before (r ∷ rs) e zero (suc j) h l = ascend-behind r rs e (get_or rs j []) (get_d_mem rs j [] (omega arith))
ascend-before (r ∷ rs) e (suc i) (suc j) h l = ascend-before rs (ascend-rest r rs e) i j (omega arith) (omega arith)

-- no record stands twice
pub ascend-once : (rs : List (List ℕ)) → ascend rs ≡ true → (i j : ℕ) → i < length rs → j < length rs → get_or rs i [] ≡ get_or rs j [] → i ≡ j
ascend-once rs e i j h k q = go (dec_lt i j) (dec_lt j i)
  where
    go : Dec (i < j) → Dec (j < i) → i ≡ j
    go (yes l) d = absurd (before_irreflexive (get_or rs j []) (rw q at (ascend-before rs e i j l k)))
    go (no l) (yes m) = absurd (before_irreflexive (get_or rs j []) (rw q at (ascend-before rs e j i m h)))
    go (no l) (no m) = omega arith

-- two lists that ascend and have the same members are equal
pub ascend_unique : (rs ss : List (List ℕ)) → ascend rs ≡ true → ascend ss ≡ true → ((r : List ℕ) → Memᴰ r rs → Memᴰ r ss) → ((r : List ℕ) → Memᴰ r ss → Memᴰ r rs) → rs ≡ ss
unfolding ascend
ascend_unique [] [] e f h k = refl
ascend_unique [] (s ∷ ss) e f h k = absurd (not-nil (k s (Memᴰ.head refl)))
ascend_unique (r ∷ rs) [] e f h k = absurd (not-nil (h r (Memᴰ.head refl)))
ascend_unique (r ∷ rs) (s ∷ ss) e f h k =
    λ i. same i ∷ ascend_unique rs ss (ascend-rest r rs e) (ascend-rest s ss f) (λ t m. there t m (cases_cons (h t (Memᴰ.tail m)))) (λ t m. back t m (cases_cons (k t (Memᴰ.tail m)))) i
  where
    first : (r ≡ s) ⊎ Memᴰ r ss → (s ≡ r) ⊎ Memᴰ s rs → r ≡ s
    first (inl p) q = p
    first (inr p) (inl q) = sym q
    first (inr p) (inr q) = absurd (before_asymmetric s r (ascend-behind s ss f r p) (ascend-behind r rs e s q))

    same : r ≡ s
    same = first (cases_cons (h r (Memᴰ.head refl))) (cases_cons (k s (Memᴰ.head refl)))

    there : (t : List ℕ) → Memᴰ t rs → (t ≡ s) ⊎ Memᴰ t ss → Memᴰ t ss
    there t m (inl q) = absurd (before_irreflexive t (subst (λ (u : List ℕ). before u t ≡ true) (same ∙ sym q) (ascend-behind r rs e t m)))
    there t m (inr q) = q

    back : (t : List ℕ) → Memᴰ t ss → (t ≡ r) ⊎ Memᴰ t rs → Memᴰ t rs
    back t m (inl q) = absurd (before_irreflexive t (subst (λ (u : List ℕ). before u t ≡ true) (sym same ∙ sym q) (ascend-behind s ss f t m)))
    back t m (inr q) = q
