-- What the walks of specs/Lists say of a list's members. Assumes nothing.
use mathlib.Core.Path.{◌≡◌, refl, sym, ap, ◌∙◌, subst}
use mathlib.Core.Logic.{◌⊎◌, inl, inr, ◌≢◌}
use mathlib.Core.Bool.{Bool, true, false, ◌&&◌, ◌||◌, not, true≢false, or_assoc, or-false as or-none}
use mathlib.Core.List.Memᴰ
use mathlib.Core.List.Memᴰ.{append_cases}
use mathlib.Core.List.Memᴰ.{cases_cons}
use mathlib.Core.List.Memᴰ.{eq_of_singleton}
use mathlib.Core.List.Memᴰ.{not-nil}
use mathlib.Core.List.{List, [], ◌∷◌, ◌++◌, map, Memᴰ}
use Prim.Native.Nat.{ℕ, zero, suc, ◌+◌, ◌≤◌, ◌<◌, zero-le, suc-le-suc}
use native.Mathlib.Nat.{le_trans, le-suc}
use native.Mathlib.Numerals.{add-one}
use native.Mathlib.Omega.{arith}
use lib.ListN.{length, get_or, drop, length-append, get_or-append, replicate}
use lib.Seq.{drop-cons, get_or-append-add}
use lib.Dec.{eqb}
use borrow.Author.Tests.{eqb-true, eqb-false, eq-eqb}
use Rattle.lists.specs.Lists.{any, all, filter, concat_map, upto, mem, same}

-- ---- tests joined

pub and-true : (a b : Bool) → (a && b) ≡ true → (a ≡ true) × (b ≡ true)
and-true true b e = (refl, e)
and-true false b e = absurd (true≢false (sym e))

pub and_of : {a b : Bool} → a ≡ true → b ≡ true → (a && b) ≡ true
and_of p q = rw (p, q)

pub or-true : (a b : Bool) → (a || b) ≡ true → (a ≡ true) ⊎ (b ≡ true)
or-true true b e = inl refl
or-true false b e = inr e

pub or_left : {a : Bool} (b : Bool) → a ≡ true → (a || b) ≡ true
or_left b p = rw p

pub or_right : (a : Bool) {b : Bool} → b ≡ true → (a || b) ≡ true
or_right true p = refl
or_right false p = p

pub or-false : (a b : Bool) → (a || b) ≡ false → (a ≡ false) × (b ≡ false)
or-false true b e = absurd (true≢false e)
or-false false b e = (refl, e)

pub not_so : (a : Bool) → (a ≡ true → ⊥) → a ≡ false
not_so true h = absurd (h refl)
not_so false h = refl

-- `not a || b` says that a gives b
pub gives : (a b : Bool) → (not a || b) ≡ true → a ≡ true → b ≡ true
gives true b e p = e
gives false b e p = absurd (true≢false (sym p))

pub gives_of : (a b : Bool) → (a ≡ true → b ≡ true) → (not a || b) ≡ true
gives_of true b h = h refl
gives_of false b h = refl

-- ---- the element at a place

module _ {A : Type 0} where
  pub get_d_mem : (xs : List A) (i : ℕ) (d : A) → i < length xs → Memᴰ (get_or xs i d) xs
  get_d_mem [] i d h = absurd (omega arith)
  get_d_mem (x ∷ xs) zero d h = Memᴰ.head refl
  get_d_mem (x ∷ xs) (suc i) d h = Memᴰ.tail (get_d_mem xs i d (omega arith))

  -- an element that is there is the same at any default
  pub get_d_any : (xs : List A) (i : ℕ) (d e : A) → i < length xs → get_or xs i d ≡ get_or xs i e
  get_d_any [] i d e h = absurd (omega arith)
  get_d_any (x ∷ xs) zero d e h = refl
  get_d_any (x ∷ xs) (suc i) d e h = get_d_any xs i d e (omega arith)

  pub get_d_map : {B : Type 0} (f : A → B) (xs : List A) (i : ℕ) (d : B) (e : A) → i < length xs → get_or (map f xs) i d ≡ f (get_or xs i e)
  get_d_map f [] i d e h = absurd (omega arith)
  get_d_map f (x ∷ xs) zero d e h = refl
  get_d_map f (x ∷ xs) (suc i) d e h = get_d_map f xs i d e (omega arith)

-- zeros, and past their end zero too
pub zeros : (n k : ℕ) → ◌≡◌ {A = ℕ} (get_or (replicate n 0) k 0) 0
zeros zero k = refl
zeros (suc n) zero = refl
zeros (suc n) (suc k) = zeros n k

pub one_on : (xs : List ℕ) (i : ℕ) → i < length xs → drop i xs ≡ get_or xs i 0 ∷ drop (i + 1) xs
one_on xs i h = rw add-one (drop-cons xs i 0 h)

-- ---- any, all, keep

module _ {A : Type 0} (f : A → Bool) where
  pub any-true : (xs : List A) → any f xs ≡ true → (x : A) × Memᴰ x xs × (f x ≡ true)
  any-true [] e = absurd (true≢false (sym e))
  any-true (x ∷ xs) e = go (f x) refl e (any-true xs)
    where
      go : (t : Bool) → f x ≡ t → (t || any f xs) ≡ true → (any f xs ≡ true → (y : A) × Memᴰ y xs × (f y ≡ true)) → (y : A) × Memᴰ y (x ∷ xs) × (f y ≡ true)
      go true p q rest = (x, Memᴰ.head refl, p)
      go false p q rest = let r = rest q in (r.0, Memᴰ.tail r.1, r.2)

  pub any_false : (xs : List A) → any f xs ≡ false → (y : A) → Memᴰ y xs → f y ≡ false
  any_false (x ∷ xs) e y m = go (f x) refl e m (any_false xs)
    where
      go : (t : Bool) → f x ≡ t → (t || any f xs) ≡ false → Memᴰ y (x ∷ xs) → (any f xs ≡ false → (y : A) → Memᴰ y xs → f y ≡ false) → f y ≡ false
      go true p q m rest = cc
      go false p q (Memᴰ.head h) rest = ap f h ∙ p
      go false p q (Memᴰ.tail m) rest = rest q y m
  any_false [] e y m = elim m [ ]

  pub any_of : (xs : List A) (y : A) → Memᴰ y xs → f y ≡ true → any f xs ≡ true
  any_of [] y m e = elim m [ ]
  any_of (x ∷ xs) y m e = go (f x) refl m (λ k. any_of xs y k e)
    where
      go : (t : Bool) → f x ≡ t → Memᴰ y (x ∷ xs) → (Memᴰ y xs → any f xs ≡ true) → (t || any f xs) ≡ true
      go true p m ih = refl
      go false p (Memᴰ.head h) ih = absurd (true≢false (sym e ∙ ap f h ∙ p))
      go false p (Memᴰ.tail m) ih = ih m

  pub all_true : (xs : List A) → all f xs ≡ true → (y : A) → Memᴰ y xs → f y ≡ true
  all_true (x ∷ xs) e y (Memᴰ.head h) = ap f h ∙ (and-true (f x) (all f xs) e).0
  all_true (x ∷ xs) e y (Memᴰ.tail m) = all_true xs (and-true (f x) (all f xs) e).1 y m
  all_true [] e y m = elim m [ ]

  pub all_of : (xs : List A) → ((y : A) → Memᴰ y xs → f y ≡ true) → all f xs ≡ true
  all_of [] h = refl
  all_of (x ∷ xs) h = and_of (h x (Memᴰ.head refl)) (all_of xs (λ y m. h y (Memᴰ.tail m)))

  pub filter-mem : (xs : List A) (y : A) → Memᴰ y (filter f xs) → Memᴰ y xs × (f y ≡ true)
  unfolding filter
  filter-mem [] y m = elim m [ ]
  filter-mem (x ∷ xs) y m = go (f x) refl m (filter-mem xs y)
    where
      go :
          (t : Bool) → f x ≡ t → Memᴰ y (elim t [ true ↦ x ∷ filter f xs | false ↦ filter f xs ])
          → (Memᴰ y (filter f xs) → Memᴰ y xs × (f y ≡ true)) → Memᴰ y (x ∷ xs) × (f y ≡ true)
      go true p (Memᴰ.head h) rest = (Memᴰ.head h, ap f h ∙ p)
      go true p (Memᴰ.tail m) rest = let r = rest m in (Memᴰ.tail r.0, r.1)
      go false p m rest = let r = rest m in (Memᴰ.tail r.0, r.1)

  pub filter_of : (xs : List A) (y : A) → Memᴰ y xs → f y ≡ true → Memᴰ y (filter f xs)
  unfolding filter
  filter_of [] y m e = elim m [ ]
  filter_of (x ∷ xs) y m e = go (f x) refl m (λ k. filter_of xs y k e)
    where
      go : (t : Bool) → f x ≡ t → Memᴰ y (x ∷ xs) → (Memᴰ y xs → Memᴰ y (filter f xs)) → Memᴰ y (elim t [ true ↦ x ∷ filter f xs | false ↦ filter f xs ])
      go true p (Memᴰ.head h) rest = Memᴰ.head h
      go true p (Memᴰ.tail m) rest = Memᴰ.tail (rest m)
      go false p (Memᴰ.head h) rest = absurd (true≢false (sym e ∙ ap f h ∙ p))
      go false p (Memᴰ.tail m) rest = rest m

-- a test that passes less often keeps no more
pub filter-length : {A : Type 0} (f g : A → Bool) (xs : List A) → ((x : A) → Memᴰ x xs → f x ≡ true → g x ≡ true) → length (filter f xs) ≤ length (filter g xs)
unfolding filter
filter-length f g [] h = zero-le
filter-length {A} f g (x ∷ xs) h = go (f x) (g x) refl refl (filter-length f g xs (λ y m. h y (Memᴰ.tail m)))
  where
    go :
        (s t : Bool) → f x ≡ s → g x ≡ t → length (filter f xs) ≤ length (filter g xs)
        → length {A = A} (elim s [ true ↦ x ∷ filter f xs | false ↦ filter f xs ]) ≤ length {A = A} (elim t [ true ↦ x ∷ filter g xs | false ↦ filter g xs ])
    go true true p q r = suc-le-suc r
    go true false p q r = absurd (true≢false (sym (h x (Memᴰ.head refl) p) ∙ q))
    go false true p q r = le_trans r (le-suc _)
    go false false p q r = r

-- a keep of a keep keeps no more
pub filter-filter : {A : Type 0} (f g : A → Bool) (xs : List A) → length (filter f (filter g xs)) ≤ length (filter f xs)
unfolding filter
filter-filter f g [] = zero-le
filter-filter {A} f g (x ∷ xs) = go (f x) (g x) refl refl (filter-filter f g xs)
  where
    go : (s t : Bool) → f x ≡ s → g x ≡ t → length (filter f (filter g xs)) ≤ length (filter f xs)
        → length (filter f (elim t as (λ _. List A) [ true ↦ x ∷ filter g xs | false ↦ filter g xs ])) ≤ length {A = A} (elim s [ true ↦ x ∷ filter f xs | false ↦ filter f xs ])
    go true true p q r = rw (p, filter) (suc-le-suc r)
    go true false p q r = le_trans r (le-suc _)
    go false true p q r = rw (p, filter) r
    go false false p q r = r

-- ---- gather

pub concat_map-mem : {A B : Type 0} (f : A → List B) (xs : List A) (y : B) → Memᴰ y (concat_map f xs) → (x : A) × Memᴰ x xs × Memᴰ y (f x)
concat_map-mem f [] y m = absurd (not-nil m)
concat_map-mem {A} f (x ∷ xs) y m = go (append_cases (f x) m) (concat_map-mem f xs y)
  where
    go : Memᴰ y (f x) ⊎ Memᴰ y (concat_map f xs) → (Memᴰ y (concat_map f xs) → (z : A) × Memᴰ z xs × Memᴰ y (f z)) → (z : A) × Memᴰ z (x ∷ xs) × Memᴰ y (f z)
    go (inl h) ih = (x, Memᴰ.head refl, h)
    go (inr h) ih = let r = ih h in (r.0, Memᴰ.tail r.1, r.2)

-- what holds of each member, part by part
pub concat_map-all : {A B : Type 0} (f : A → List B) (xs : List A) (P : B → Type 0) → ((x : A) → Memᴰ x xs → (y : B) → Memᴰ y (f x) → P y) → (y : B) → Memᴰ y (concat_map f xs) → P y
concat_map-all f xs P h y m = let r = concat_map-mem f xs y m in h r.0 r.1 y r.2

pub concat_map_of : {A B : Type 0} (f : A → List B) (xs : List A) (x : A) (y : B) → Memᴰ x xs → Memᴰ y (f x) → Memᴰ y (concat_map f xs)
concat_map_of f [] x y m h = absurd (not-nil m)
concat_map_of {A} f (z ∷ xs) x y m h = go (cases_cons m) (λ k. concat_map_of f xs x y k h)
  where
    go : (x ≡ z) ⊎ Memᴰ x xs → (Memᴰ x xs → Memᴰ y (concat_map f xs)) → Memᴰ y (f z ++ concat_map f xs)
    go (inl e) ih = Memᴰ.append_left (concat_map f xs) (subst (λ (u : A). Memᴰ y (f u)) e h)
    go (inr k) ih = Memᴰ.append_right (f z) (ih k)

-- ---- upto

pub upto-mem : (n x : ℕ) → Memᴰ x (upto n) → x < n
unfolding upto
upto-mem zero x m = absurd (not-nil m)
upto-mem (suc n) x m = go (append_cases (upto n) m) (upto-mem n x)
  where
    go : Memᴰ x (upto n) ⊎ Memᴰ x (n ∷ []) → (Memᴰ x (upto n) → x < n) → x < suc n
    go (inl h) ih = let l = ih h in omega arith
    go (inr h) ih = let e = eq_of_singleton h in omega arith

pub upto_of : (n x : ℕ) → x < n → Memᴰ x (upto n)
unfolding upto
upto_of zero x l = absurd (omega arith)
upto_of (suc n) x l = go (eqb x n) refl (upto_of n x)
  where
    go : (t : Bool) → eqb x n ≡ t → (x < n → Memᴰ x (upto n)) → Memᴰ x (upto n ++ (n ∷ []))
    go true e ih = Memᴰ.append_right (upto n) (Memᴰ.head (eqb-true _ _ e))
    go false e ih = Memᴰ.append_left (n ∷ []) (ih (omega (arith, eqb-false x n e)))

pub length-upto : (n : ℕ) → length (upto n) ≡ n
unfolding upto
length-upto zero = refl
length-upto (suc n) = omega (arith, length-append (upto n) (n ∷ []), length-upto n)

pub get_d_upto : (n i d : ℕ) → i < n → get_or (upto n) i d ≡ i
unfolding upto
get_d_upto zero i d h = absurd (omega arith)
get_d_upto (suc n) i d h = go (eqb i n) refl (get_d_upto n i d)
  where
    last : i ≡ n → get_or (upto n ++ (n ∷ [])) i d ≡ i
    last e =
        let f : i ≡ length (upto n) + 0 = omega (arith, length-upto n) in
        ap (λ k. get_or (upto n ++ (n ∷ [])) k d) f ∙ get_or-append-add (upto n) (n ∷ []) 0 d ∙ sym e

    go : (t : Bool) → eqb i n ≡ t → (i < n → get_or (upto n) i d ≡ i) → get_or (upto n ++ (n ∷ [])) i d ≡ i
    go true e ih = last (eqb-true i n e)
    go false e ih =
        let l : i < n = omega (arith, eqb-false i n e) in
        get_or-append (upto n) (n ∷ []) d i (omega (arith, length-upto n)) ∙ ih l

-- ---- mem, same

pub mem-true : (x : ℕ) (xs : List ℕ) → mem x xs ≡ true → Memᴰ x xs
unfolding mem
mem-true x xs e = let r = any-true (eqb x) xs e in subst (λ (y : ℕ). Memᴰ y xs) (sym (eqb-true x r.0 r.2)) r.1

pub mem_of : (x : ℕ) (xs : List ℕ) → Memᴰ x xs → mem x xs ≡ true
unfolding mem
mem_of x xs m = any_of (eqb x) xs x m (eq-eqb x x refl)

pub mem-false : (x : ℕ) (xs : List ℕ) → mem x xs ≡ false → (y : ℕ) → Memᴰ y xs → x ≢ y
unfolding mem
mem-false x xs e y m = eqb-false x y (any_false (eqb x) xs e y m)

pub mem-snoc : (x y : ℕ) (xs : List ℕ) → mem x (xs ++ (y ∷ [])) ≡ (mem x xs || eqb x y)
unfolding mem
mem-snoc x y [] = or-none (eqb x y)
mem-snoc x y (z ∷ xs) = ap (λ t. eqb x z || t) (mem-snoc x y xs) ∙ sym (or_assoc (eqb x z) (mem x xs) (eqb x y))

pub same_true : (xs ys : List ℕ) → same xs ys ≡ true → xs ≡ ys
unfolding same
same_true [] [] e = refl
same_true [] (y ∷ ys) e = absurd (true≢false (sym e))
same_true (x ∷ xs) [] e = absurd (true≢false (sym e))
same_true (x ∷ xs) (y ∷ ys) e =
    let p = and-true (eqb x y) (same xs ys) e in
    λ i. eqb-true x y p.0 i ∷ same_true xs ys p.1 i

pub same_refl : (xs : List ℕ) → same xs xs ≡ true
unfolding same
same_refl [] = refl
same_refl (x ∷ xs) = and_of (eq-eqb x x refl) (same_refl xs)

pub same_of : {xs ys : List ℕ} → xs ≡ ys → same xs ys ≡ true
same_of {xs} e = subst (λ (zs : List ℕ). same xs zs ≡ true) e (same_refl xs)
