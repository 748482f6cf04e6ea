-- Lists whose elements stand in an order, each before all that follow: what keeps it so. Records that ascend are one case. Assumes nothing.
use mathlib.Core.Path.{◌≡◌, refl, subst}
use mathlib.Core.Logic.{◌⊎◌, inl, inr}
use mathlib.Core.Bool.{Bool, true, false}
use mathlib.Core.List.Memᴰ
use mathlib.Core.List.Memᴰ.{append_cases}
use mathlib.Core.List.Memᴰ.{eq_of_singleton}
use mathlib.Core.List.Memᴰ.{not-nil}
use mathlib.Core.List.{List, [], ◌∷◌, ◌++◌, map, Memᴰ}
use Prim.Native.Nat.{ℕ, zero, suc, ◌<◌}
use native.Mathlib.Omega.{arith}
use Rattle.lists.specs.Lists.{filter, concat_map, upto}
use Rattle.lists.proofs.Members.{filter-mem, concat_map-mem, upto-mem}
use Rattle.table_spec.specs.Reading.{before, ascend}
use Rattle.table_spec.proofs.Order.{ascend-behind, ascend-rest, ascend-cons}

pub data AllPairs {A : Type 0} (R : A → A → Type 0) : List A → Type 0 where
  none : AllPairs R []
  first : {x : A} {xs : List A} → ((y : A) → Memᴰ y xs → R x y) → AllPairs R xs → AllPairs R (x ∷ xs)

-- ---- records that ascend

abbrev pub Before : List ℕ → List ℕ → Type 0
Before r s = before r s ≡ true

pub ascend-all-pairs : (rs : List (List ℕ)) → ascend rs ≡ true → AllPairs Before rs
unfolding ascend
ascend-all-pairs [] e = none
ascend-all-pairs (r ∷ rs) e = first (ascend-behind r rs e) (ascend-all-pairs rs (ascend-rest r rs e))

pub all-pairs-ascend : {rs : List (List ℕ)} → AllPairs Before rs → ascend rs ≡ true
unfolding ascend
all-pairs-ascend (none) = refl
all-pairs-ascend (first h o) = ascend-cons _ _ h (all-pairs-ascend o)

-- ---- what keeps the order

module _ {A : Type 0} {R : A → A → Type 0} where
  pub all-pairs-append : {xs ys : List A} → AllPairs R xs → AllPairs R ys → ((x y : A) → Memᴰ x xs → Memᴰ y ys → R x y) → AllPairs R (xs ++ ys)
  all-pairs-append (none) p h = p
  all-pairs-append {ys = ys} (first {x} {xs} k o) p h = first (λ y d. behind y (append_cases xs d)) (all-pairs-append o p (λ a b i j. h a b (Memᴰ.tail i) j))
    where
      behind : (y : A) → Memᴰ y xs ⊎ Memᴰ y ys → R x y
      behind y (inl d) = k y d
      behind y (inr d) = h x y (Memᴰ.head refl) d

  pub all-pairs-filter : (f : A → Bool) {xs : List A} → AllPairs R xs → AllPairs R (filter f xs)
  unfolding filter
  all-pairs-filter f (none) = none
  all-pairs-filter f (first {x} {xs} k o) = go (f x) (all-pairs-filter f o)
    where
      go : (t : Bool) → AllPairs R (filter f xs) → AllPairs R (elim t as (λ _. List A) [ true ↦ x ∷ filter f xs | false ↦ filter f xs ])
      go true ih = first (λ y d. k y (filter-mem f xs y d).0) ih
      go false ih = ih

module _ {A B : Type 0} {R : A → A → Type 0} {Q : B → B → Type 0} where
  pub all-pairs-map : (g : A → B) {xs : List A} → AllPairs R xs → ((x y : A) → Memᴰ x xs → Memᴰ y xs → R x y → Q (g x) (g y)) → AllPairs Q (map g xs)
  all-pairs-map g (none) h = none
  all-pairs-map g (first {x} {xs} k o) h = first (λ y d. behind y (Memᴰ.of_map g xs d)) (all-pairs-map g o (λ a b i j. h a b (Memᴰ.tail i) (Memᴰ.tail j)))
    where
      behind : (y : B) → (z : A) × Memᴰ z xs × (g z ≡ y) → Q (g x) y
      behind y (z, d, e) = subst (Q (g x)) e (h x z (Memᴰ.head refl) (Memᴰ.tail d) (k z d))

  pub all-pairs-concat_map : (f : A → List B) {xs : List A} → AllPairs R xs → ((x : A) → Memᴰ x xs → AllPairs Q (f x))
      → ((x y : A) → Memᴰ x xs → Memᴰ y xs → R x y → (u v : B) → Memᴰ u (f x) → Memᴰ v (f y) → Q u v) → AllPairs Q (concat_map f xs)
  all-pairs-concat_map f (none) e h = none
  all-pairs-concat_map f (first {x} {xs} k o) e h =
      all-pairs-append (e x (Memᴰ.head refl)) (all-pairs-concat_map f o (λ y d. e y (Memᴰ.tail d)) (λ a b i j. h a b (Memᴰ.tail i) (Memᴰ.tail j)))
      (λ u v i j. behind u v i (concat_map-mem f xs v j))
    where
      behind : (u v : B) → Memᴰ u (f x) → (y : A) × Memᴰ y xs × Memᴰ v (f y) → Q u v
      behind u v i (y, d, j) = h x y (Memᴰ.head refl) (Memᴰ.tail d) (k y d) u v i j

pub all-pairs-upto : (n : ℕ) → AllPairs (λ (x y : ℕ). x < y) (upto n)
unfolding upto
all-pairs-upto zero = none
all-pairs-upto (suc n) = all-pairs-append (all-pairs-upto n) (first (λ y d. absurd (not-nil d)) none) (λ x y i j. let e = eq_of_singleton j in omega (arith, upto-mem n x i, e))
