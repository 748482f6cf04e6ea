-- How many elements of a list pass a test, and how many cells of a grid. Assumes nothing.
use mathlib.Core.Path.{◌≡◌, refl, sym, ap, ◌∙◌}
use mathlib.Core.Bool.{Bool, true, false, true≢false}
use mathlib.Core.List.{List, [], ◌∷◌, ◌++◌, append_assoc, map, Memᴰ}
use Prim.Native.Nat.{ℕ, suc, ◌*◌, ◌≤◌, ◌<◌, zero-le, suc-le-suc}
use native.Mathlib.Nat.{le_trans, le-suc, suc-mul, zero-mul}
use native.Mathlib.Omega.{arith}
use lib.ListN.{length, length-append, length-map}
use Rattle.lists.specs.Lists.{filter, concat_map}
use Rattle.lists.proofs.Members.{filter-length, concat_map_of}

module _ {A : Type 0} where
  pub filter-append : (f : A → Bool) (xs ys : List A) → filter f (xs ++ ys) ≡ filter f xs ++ filter f ys
  unfolding filter
  filter-append f [] ys = refl
  filter-append f (x ∷ xs) ys = go (f x) (filter-append f xs ys)
    where
      go :
          (t : Bool) → filter f (xs ++ ys) ≡ filter f xs ++ filter f ys
          → ◌≡◌ {A = List A} (elim t [ true ↦ x ∷ filter f (xs ++ ys) | false ↦ filter f (xs ++ ys) ]) ((elim t as (λ _. List A) [ true ↦ x ∷ filter f xs | false ↦ filter f xs ]) ++ filter f ys)
      go true e = ap (λ zs. x ∷ zs) e
      go false e = e

  pub filter-le : (f : A → Bool) (xs : List A) → length (filter f xs) ≤ length xs
  unfolding filter
  filter-le f [] = zero-le
  filter-le f (x ∷ xs) = go (f x) (filter-le f xs)
    where
      go : (t : Bool) → length (filter f xs) ≤ length xs → length {A = A} (elim t [ true ↦ x ∷ filter f xs | false ↦ filter f xs ]) ≤ length (x ∷ xs)
      go true h = suc-le-suc h
      go false h = le_trans h (le-suc _)

  -- a test that all pass
  pub filter-every : (xs : List A) → filter (λ x. true) xs ≡ xs
  unfolding filter
  filter-every [] = refl
  filter-every (x ∷ xs) = ap (λ (l : List A). x ∷ l) (filter-every xs)

  -- a test that passes more often, and once more at y, keeps more
  pub filter-less :
      (f g : A → Bool) (xs : List A) → ((x : A) → Memᴰ x xs → f x ≡ true → g x ≡ true) → (y : A) → Memᴰ y xs → f y ≡ false → g y ≡ true
      → length (filter f xs) < length (filter g xs)
  unfolding filter
  filter-less f g [] h y m p q = elim m [ ]
  filter-less f g (x ∷ xs) h y m p q = go (f x) (g x) refl refl m (filter-length f g xs (λ z k. h z (Memᴰ.tail k))) (λ k. filter-less f g xs (λ z l. h z (Memᴰ.tail l)) y k p q)
    where
      go : (s t : Bool) → f x ≡ s → g x ≡ t → Memᴰ y (x ∷ xs) → length (filter f xs) ≤ length (filter g xs) → (Memᴰ y xs → length (filter f xs) < length (filter g xs))
          → length {A = A} (elim s [ true ↦ x ∷ filter f xs | false ↦ filter f xs ]) < length {A = A} (elim t [ true ↦ x ∷ filter g xs | false ↦ filter g xs ])
      go true false e k m l r = absurd (true≢false (sym (h x (Memᴰ.head refl) e) ∙ k))
      go true true e k (Memᴰ.head u) l r = absurd (true≢false (sym e ∙ ap f (sym u) ∙ p))
      go true true e k (Memᴰ.tail u) l r = suc-le-suc (r u)
      go false true e k m l r = suc-le-suc l
      go false false e k (Memᴰ.head u) l r = absurd (true≢false (sym q ∙ ap g u ∙ k))
      go false false e k (Memᴰ.tail u) l r = r u

pub filter_map : {A B : Type 0} (f : B → Bool) (g : A → B) (xs : List A) → length (filter f (map g xs)) ≡ length (filter (λ x. f (g x)) xs)
unfolding filter
filter_map f g [] = refl
filter_map {A} {B} f g (x ∷ xs) = go (f (g x)) (filter_map f g xs)
  where
    go :
        (t : Bool) → length (filter f (map g xs)) ≡ length (filter (λ x. f (g x)) xs)
        → length {A = B} (elim t [ true ↦ g x ∷ filter f (map g xs) | false ↦ filter f (map g xs) ]) ≡ length {A = A} (elim t [ true ↦ x ∷ filter (λ x. f (g x)) xs | false ↦ filter (λ x. f (g x)) xs ])
    go true e = ap suc e
    go false e = e

pub concat_map-append : {A B : Type 0} (f : A → List B) (xs ys : List A) → concat_map f (xs ++ ys) ≡ concat_map f xs ++ concat_map f ys
concat_map-append f [] ys = refl
concat_map-append f (x ∷ xs) ys = ap (λ zs. f x ++ zs) (concat_map-append f xs ys) ∙ sym (append_assoc (f x) (concat_map f xs) (concat_map f ys))

pub map_of_lem : {A B : Type 0} (f : A → B) {x : A} {xs : List A} → Memᴰ x xs → Memᴰ (f x) (map f xs)
map_of_lem f (Memᴰ.head e) = Memᴰ.head (ap f e)
map_of_lem f (Memᴰ.tail m) = Memᴰ.tail (map_of_lem f m)

-- ---- the cells of a grid: each row with each column

unfoldable pub grid : List ℕ → List ℕ → List (ℕ × ℕ)
grid rows columns = concat_map (λ q. map (λ x. (q, x)) columns) rows

pub length_grid : (rows columns : List ℕ) → length (grid rows columns) ≡ length rows * length columns
unfolding grid
length_grid [] columns = sym (zero-mul (length columns))
length_grid (q ∷ rows) columns =
    let e = length-append (map (λ x. (q, x)) columns) (grid rows columns) in
    let l = length-map {B = ℕ × ℕ} columns (λ x. (q, x)) in
    omega (arith, e, l, length_grid rows columns, suc-mul (length rows) (length columns))

pub grid_of : (rows columns : List ℕ) (q x : ℕ) → Memᴰ q rows → Memᴰ x columns → Memᴰ (q, x) (grid rows columns)
unfolding grid
grid_of rows columns q x m k = concat_map_of (λ p. map (λ y. (p, y)) columns) rows q (q, x) m (map_of_lem (λ y. (q, y)) k)
