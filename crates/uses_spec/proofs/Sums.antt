-- Sums over lines: one law for any key by which they are added up, and one for any order. Assumes nothing.
use mathlib.Core.Path.{◌≡◌, refl, sym, ap, ◌∙◌}
use mathlib.Core.Bool.{Bool, true, false, ◌&&◌}
use mathlib.Core.List.{List, [], ◌∷◌, ◌++◌, map, map-append, Memᴰ, Permᴰ}
use Prim.Native.Nat.{ℕ, zero, suc, ◌+◌, ◌≤◌, ◌<◌}
use native.Mathlib.Omega.{arith}
use lib.Dec.{eqb}
use borrow.Author.Tests.{eqb-true, eqb-false, ne_eqb}
use lib.ListN.{length, get_or, length-map}
use Rattle.limits.specs.Limits.{state_most}
use Rattle.lists.proofs.Members.{get_d_map, get_d_upto, length-upto}
use Rattle.lists.specs.Lists.{all, filter, upto, sum}
use Rattle.uses_spec.specs.Uses.{Line, uses_in, class_sum, class_sums}

-- a number that counts where a test passes
unfoldable pub weigh : Bool → ℕ → ℕ
weigh true v = v
weigh false v = 0

weigh-none : (t : Bool) → weigh t 0 ≡ 0
unfolding weigh
weigh-none true = refl
weigh-none false = refl

sum-append : (xs ys : List ℕ) → sum (xs ++ ys) ≡ sum xs + sum ys
unfolding sum
sum-append [] ys = omega arith
sum-append (x ∷ xs) ys = omega (arith, sum-append xs ys)

sum_plus : (f g : ℕ → ℕ) (qs : List ℕ) → sum (map (λ q. f q + g q) qs) ≡ sum (map f qs) + sum (map g qs)
unfolding sum
sum_plus f g [] = refl
sum_plus f g (q ∷ qs) = omega (arith, sum_plus f g qs)

sum-none : (qs : List ℕ) → sum (map (λ q. 0) qs) ≡ 0
unfolding sum
sum-none [] = refl
sum-none (q ∷ qs) = omega (arith, sum-none qs)

-- ---- the elements that pass

module _ {A : Type 0} (u : A → ℕ) (f : A → Bool) where
  pub sum_first : (x : A) (xs : List A) → sum (map u (filter f (x ∷ xs))) ≡ weigh (f x) (u x) + sum (map u (filter f xs))
  unfolding sum filter weigh
  sum_first x xs = go (f x)
    where
      go : (t : Bool) → sum (map u (elim t as (λ _. List A) [ true ↦ x ∷ filter f xs | false ↦ filter f xs ])) ≡ weigh t (u x) + sum (map u (filter f xs))
      go true = refl
      go false = omega arith

  pub sum_weighed : (xs : List A) → sum (map u (filter f xs)) ≡ sum (map (λ x. weigh (f x) (u x)) xs)
  unfolding sum filter
  sum_weighed [] = refl
  sum_weighed (x ∷ xs) = sum_first x xs ∙ ap (λ n. weigh (f x) (u x) + n) (sum_weighed xs)

  -- none passes
  pub sum_no_part : (xs : List A) → ((x : A) → Memᴰ x xs → f x ≡ false) → sum (map u (filter f xs)) ≡ 0
  unfolding sum filter weigh
  sum_no_part [] h = refl
  sum_no_part (x ∷ xs) h =
      let e : weigh (f x) (u x) ≡ 0 = rw (h x (Memᴰ.head refl), weigh) in
      omega (arith, sum_first x xs, e, sum_no_part xs (λ y m. h y (Memᴰ.tail m)))

pub filter-every : {A : Type 0} (xs : List A) → filter (λ x. true) xs ≡ xs
unfolding filter
filter-every [] = refl
filter-every (x ∷ xs) = ap (λ ys. x ∷ ys) (filter-every xs)

-- ---- the numbers below n

upto-sum : (g : ℕ → ℕ) (n : ℕ) → sum (map g (upto (suc n))) ≡ sum (map g (upto n)) + g n
unfolding upto sum
upto-sum g n = ap sum (map-append g (upto n) (n ∷ [])) ∙ sum-append (map g (upto n)) (g n ∷ []) ∙ omega arith

-- x is not among them, or once
module _ (p : ℕ → Bool) (v x : ℕ) where
  abbrev at : ℕ → ℕ
  at q = weigh (p q) (weigh (eqb x q) v)

  never : (n : ℕ) → n ≤ x → sum (map at (upto n)) ≡ 0
  unfolding sum upto weigh
  never zero h = refl
  never (suc n) h =
      let e : at n ≡ 0 = rw (ne_eqb x n (omega arith), weigh) (weigh-none (p n)) in
      omega (arith, upto-sum at n, never n (omega arith), e)

  once : (n : ℕ) → x < n → sum (map at (upto n)) ≡ weigh (p x) v
  unfolding weigh
  once zero h = absurd (omega arith)
  once (suc n) h = go (eqb x n) refl (once n)
    where
      go : (t : Bool) → eqb x n ≡ t → (x < n → sum (map at (upto n)) ≡ weigh (p x) v) → sum (map at (upto (suc n))) ≡ weigh (p x) v
      go true e ih =
          let k = eqb-true x n e in
          let l : at n ≡ weigh (p x) v = rw (e, weigh) (ap (λ q. weigh (p q) v) (sym k)) in
          omega (arith, upto-sum at n, never n (omega arith), l)
      go false e ih =
          let l : at n ≡ 0 = rw (e, weigh) (weigh-none (p n)) in
          omega (arith, upto-sum at n, ih (omega (arith, eqb-false x n e)), l)

-- ---- added up by a key that is below n: over the keys that pass, the lines whose key passes

module _ (k : Line → ℕ) (n : ℕ) where
  pub by_key : (p : ℕ → Bool) (ls : List Line) → ((l : Line) → Memᴰ l ls → k l < n)
      → sum (map (λ q. uses_in (filter (λ l. eqb (k l) q) ls)) (filter p (upto n))) ≡ uses_in (filter (λ l. p (k l)) ls)
  unfolding uses_in sum filter
  by_key p [] h = sum-none (filter p (upto n))
  by_key p (l ∷ ls) h =
      let u : Line → ℕ = λ y. y.uses in
      let one : (q : ℕ) → uses_in (filter (λ y. eqb (k y) q) (l ∷ ls)) ≡ weigh (eqb (k l) q) l.uses + uses_in (filter (λ y. eqb (k y) q) ls) = λ q. sum_first u (λ y. eqb (k y) q) l ls in
      ap (λ g. sum (map g (filter p (upto n)))) (λ i q. one q i)
      ∙ sum_plus (λ q. weigh (eqb (k l) q) l.uses) (λ q. uses_in (filter (λ y. eqb (k y) q) ls)) (filter p (upto n))
      ∙ (λ i. (sum_weighed (λ q. weigh (eqb (k l) q) l.uses) p (upto n) ∙ once p l.uses (k l) n (h l (Memᴰ.head refl))) i + by_key p ls (λ y m. h y (Memᴰ.tail m)) i)
      ∙ sym (sum_first u (λ y. p (k y)) l ls)

  -- .. over all keys, all lines
  pub by_every_key : (ls : List Line) → ((l : Line) → Memᴰ l ls → k l < n) → sum (map (λ q. uses_in (filter (λ l. eqb (k l) q) ls)) (upto n)) ≡ uses_in ls
  by_every_key ls h =
      ap (λ qs. sum (map (λ q. uses_in (filter (λ l. eqb (k l) q) ls)) qs)) (sym (filter-every (upto n))) ∙ by_key (λ q. true) ls h ∙ ap uses_in (filter-every ls)

-- ---- another order

module _ (f : Line → Bool) where
  pub any_order : {ls ks : List Line} → Permᴰ ls ks → uses_in (filter f ls) ≡ uses_in (filter f ks)
  unfolding uses_in
  any_order Permᴰ.nil = refl
  any_order (Permᴰ.cons {a = a} {b = b} {l₁ = ls} {l₂ = ks} e d) =
      sum_first (λ l. l.uses) f a ls ∙ (λ i. weigh (f (e i)) (e i).uses + any_order d i) ∙ sym (sum_first (λ l. l.uses) f b ks)
  any_order (Permᴰ.swap {a = a} {b = b} {a' = a'} {b' = b'} {l = ls} e d) =
      let u : Line → ℕ = λ l. l.uses in
      let w : Line → ℕ = λ l. weigh (f l) l.uses in
      let x = sum_first u f a (b ∷ ls) in
      let y = sum_first u f b ls in
      let x' = sum_first u f a' (b' ∷ ls) in
      let y' = sum_first u f b' ls in
      let p : w a ≡ w b' = ap w e in
      let q : w b ≡ w a' = ap w d in
      omega (arith, x, y, x', y', p, q)
  any_order (Permᴰ.trans d e) = any_order d ∙ any_order e

  pub all-any-order : {ls ks : List Line} → Permᴰ ls ks → all f ls ≡ all f ks
  all-any-order Permᴰ.nil = refl
  all-any-order (Permᴰ.cons e d) = λ i. f (e i) && all-any-order d i
  all-any-order (Permᴰ.swap {a = a} {b = b} {a' = a'} {b' = b'} {l = ls} e d) = (λ i. f (e i) && (f (d i) && all f ls)) ∙ turned (f b') (f a') (all f ls)
    where
      turned : (s t r : Bool) → (s && (t && r)) ≡ (t && (s && r))
      turned true t r = refl
      turned false true r = refl
      turned false false r = refl
  all-any-order (Permᴰ.trans d e) = all-any-order d ∙ all-any-order e

pub total-any-order : {ls ks : List Line} → Permᴰ ls ks → uses_in ls ≡ uses_in ks
total-any-order {ls} {ks} d = ap uses_in (sym (filter-every ls)) ∙ any_order (λ l. true) d ∙ ap uses_in (filter-every ks)

-- ---- the sums of all classes

pub length-sums : (m : List ℕ) (ls : List Line) → length (class_sums m ls) ≡ state_most
unfolding class_sums
length-sums m ls = length-map (upto state_most) (class_sum m ls) ∙ length-upto state_most

pub sum-at : (m : List ℕ) (ls : List Line) (c : ℕ) → c < state_most → get_or (class_sums m ls) c 0 ≡ class_sum m ls c
unfolding class_sums
sum-at m ls c h = get_d_map (class_sum m ls) (upto state_most) c 0 0 (omega (arith, length-upto state_most)) ∙ ap (class_sum m ls) (get_d_upto state_most c 0 h)
