-- Group 2 from what is known of two states: with p = q whatever holds of one holds of the other, and with p ≠ q no state is joined to both. Each such
-- conclusion is a unit step by a clause of the group, and where none is left to draw, the group is at rest. Assumes nothing.
use mathlib.Core.Path.{◌≡◌, refl, sym, ap, ◌∙◌, subst}
use mathlib.Core.Logic.{◌⊎◌, inl, inr, ◌≢◌}
use mathlib.Core.Bool.{Bool, true, false}
use mathlib.Core.List.Memᴰ.{append_cases}
use mathlib.Core.List.{List, [], ◌∷◌, ◌++◌, append-nil, Memᴰ}
use Prim.Native.Nat.{ℕ, zero, suc, ◌+◌, ◌*◌, ◌/◌, ◌%◌, ◌≤◌, ◌<◌}
use native.Mathlib.Omega.{arith}
use native.Mathlib.Decide.{ℕ_discrete}
use lib.ListN.{length}
use lib.Dec.{eqb, ltb}
use borrow.Author.Tests.{eqb-true, eqb-false}
use Rattle.lists.specs.Lists.{any, filter, upto}
use Rattle.lists.proofs.Members.{any-true, any_false, concat_map-mem, concat_map_of, upto_of}
use Rattle.cnf.specs.Clauses.{positive, negative, value_of, clauses_in, is_positive, Horn}
use Rattle.cnf.specs.Search.{is_right, is_unset, broken, forcing, by_unset, seen}
use Rattle.cnf.specs.Closing.{Formed, Found, Settled, holds, waits, AtRest, Stirred, SettledOr}
use Rattle.pairs.specs.Pairs.{pairs}
use Rattle.cnf.proofs.Found.{Means, seen_means}
use Rattle.pairs.specs.Pairs.{variable_of}
use Rattle.pairs.specs.Triangles.{past, triangle, triangles}
use Rattle.sat_trail.specs.Conclusions.{with_triangles, saying, Concludes, alike, parted}
use Rattle.pairs.proofs.Pairs.{variable_sym, variable_injective, variable-below}
use Rattle.pairs.proofs.Triangles.{past-mem, past_of}
use borrow.Author.Tests.{ltb-true, ltb-false}

-- ---- x and y give z

abbrev pub arrow : ℕ → ℕ → ℕ → List ℕ
arrow x y z = negative x ∷ negative y ∷ positive z ∷ []

at_no : (w : List ℕ) (x : ℕ) → value_of w (negative x / 2) ≡ value_of w x
at_no w x = ap (value_of w) (omega arith)

at_yes : (w : List ℕ) (x : ℕ) → value_of w (positive x / 2) ≡ value_of w x
at_yes w x = ap (value_of w) (omega arith)

module _ (w : List ℕ) (x : ℕ) {k : ℕ} (e : value_of w x ≡ k) where
  unset_no : is_unset w (negative x) ≡ eqb k 2
  unfolding is_unset
  unset_no = ap (λ (y : ℕ). eqb y 2) (at_no w x ∙ e)

  unset_yes : is_unset w (positive x) ≡ eqb k 2
  unfolding is_unset
  unset_yes = ap (λ (y : ℕ). eqb y 2) (at_yes w x ∙ e)

  right_no : is_right w (negative x) ≡ eqb (k + 1) 1
  unfolding is_right
  right_no = let odd : negative x % 2 ≡ 1 = omega arith in rw (at_no w x ∙ e, odd)

  right_yes : is_right w (positive x) ≡ eqb (k + 0) 1
  unfolding is_right
  right_yes = let even : positive x % 2 ≡ 0 = omega arith in rw (at_yes w x ∙ e, even)

module _ (w : List ℕ) (x y z : ℕ) where
  arrow_third : value_of w x ≡ 1 → value_of w y ≡ 1 → value_of w z ≡ 2 → seen w (arrow x y z) ≡ forcing (positive z)
  unfolding seen filter by_unset
  arrow_third a b c = rw (right_no w x a, right_no w y b, right_yes w z c, unset_no w x a, unset_no w y b, unset_yes w z c, filter, seen, any, by_unset)

  arrow_first : value_of w x ≡ 2 → value_of w y ≡ 1 → value_of w z ≡ 0 → seen w (arrow x y z) ≡ forcing (negative x)
  unfolding seen filter by_unset
  arrow_first a b c = rw (right_no w x a, right_no w y b, right_yes w z c, unset_no w x a, unset_no w y b, unset_yes w z c, filter, seen, any, by_unset)

  arrow_second : value_of w x ≡ 1 → value_of w y ≡ 2 → value_of w z ≡ 0 → seen w (arrow x y z) ≡ forcing (negative y)
  unfolding seen filter by_unset
  arrow_second a b c = rw (right_no w x a, right_no w y b, right_yes w z c, unset_no w x a, unset_no w y b, unset_yes w z c, filter, seen, any, by_unset)

  arrow_broken : value_of w x ≡ 1 → value_of w y ≡ 1 → value_of w z ≡ 0 → seen w (arrow x y z) ≡ broken
  unfolding seen filter by_unset
  arrow_broken a b c = rw (right_no w x a, right_no w y b, right_yes w z c, unset_no w x a, unset_no w y b, unset_yes w z c, filter, seen, any, by_unset)

pub found_by : {cs : List (List ℕ)} (w c : List ℕ) → Memᴰ c cs → (l : ℕ) → seen w c ≡ forcing l → Found w cs (forcing l)
found_by w c m l e = (c, m, subst (Means w c) e (seen_means w c))

pub broken_by : {cs : List (List ℕ)} (w c : List ℕ) → Memᴰ c cs → seen w c ≡ broken → Found w cs broken
broken_by w c m e = (c, m, subst (Means w c) e (seen_means w c))

-- a clause of the group by its premises in either order
pub data Either (cs : List (List ℕ)) (x y z : ℕ) : Type 0 where
  this : Memᴰ (arrow x y z) cs → Either cs x y z
  that : Memᴰ (arrow y x z) cs → Either cs x y z

module _ {cs : List (List ℕ)} (w : List ℕ) {x y z : ℕ} where
  either_third : Either cs x y z → value_of w x ≡ 1 → value_of w y ≡ 1 → value_of w z ≡ 2 → Found w cs (forcing (positive z))
  either_third (this m) a b c = found_by w (arrow x y z) m (positive z) (arrow_third w x y z a b c)
  either_third (that m) a b c = found_by w (arrow y x z) m (positive z) (arrow_third w y x z b a c)

  either_second : Either cs x y z → value_of w x ≡ 1 → value_of w y ≡ 2 → value_of w z ≡ 0 → Found w cs (forcing (negative y))
  either_second (this m) a b c = found_by w (arrow x y z) m (negative y) (arrow_second w x y z a b c)
  either_second (that m) a b c = found_by w (arrow y x z) m (negative y) (arrow_first w y x z b a c)

  either-broken : Either cs x y z → value_of w x ≡ 1 → value_of w y ≡ 1 → value_of w z ≡ 0 → Found w cs broken
  either-broken (this m) a b c = broken_by w (arrow x y z) m (arrow_broken w x y z a b c)
  either-broken (that m) a b c = broken_by w (arrow y x z) m (arrow_broken w y x z b a c)

-- ---- the clauses of a table's states

module _ (n : ℕ) where
  in_triangle : (p q s : ℕ) → p < q → q < s → s < n → (c : List ℕ) → Memᴰ c (triangle p q s) → Memᴰ c (triangles n)
  unfolding triangles
  in_triangle p q s l h k c m =
      concat_map_of _ (upto n) p c (upto_of n p (omega arith)) (concat_map_of _ (past n p) q c (past_of n p q l (omega arith)) (concat_map_of (λ s. triangle p q s) (past n q) s c (past_of n q s h k) m))

  in_order-either : (p q s : ℕ) → p < q → q < s → s < n
      → Either (triangles n) (variable_of p q) (variable_of q s) (variable_of p s) × Either (triangles n) (variable_of p q) (variable_of p s) (variable_of q s) × Either (triangles n) (variable_of p s) (variable_of q s) (variable_of p q)
  unfolding triangle
  in_order-either p q s l h k = (
    this (in_triangle p q s l h k _ (Memᴰ.head refl)),
    this (in_triangle p q s l h k _ (Memᴰ.tail (Memᴰ.head refl))),
    this (in_triangle p q s l h k _ (Memᴰ.tail (Memᴰ.tail (Memᴰ.head refl)))),
  )

swapped : {cs : List (List ℕ)} {x y z : ℕ} → Either cs x y z → Either cs y x z
swapped (this m) = that m
swapped (that m) = this m

-- p = q and q = s give p = s, for any three states
pub either_of : (n : ℕ) (p q s : ℕ) → p < n → q < n → s < n → p ≢ q → q ≢ s → p ≢ s → Either (triangles n) (variable_of p q) (variable_of q s) (variable_of p s)
either_of n p q s a b c x y z = go (ltb p q) (ltb q s) (ltb p s) refl refl refl
  where
    go : (i j k : Bool) → ltb p q ≡ i → ltb q s ≡ j → ltb p s ≡ k → Either (triangles n) (variable_of p q) (variable_of q s) (variable_of p s)
    go true true k e f g = (in_order-either n p q s (ltb-true p q e) (ltb-true q s f) c).0
    go true false true e f g = rw (variable_sym q s) (in_order-either n p s q (ltb-true p s g) (omega (arith, ltb-false q s f)) b).2
    go true false false e f g = rw (variable_sym q s, variable_sym p s) (swapped (in_order-either n s p q (omega (arith, ltb-false p s g)) (ltb-true p q e) b).2)
    go false true true e f g = rw (variable_sym p q) (in_order-either n q p s (omega (arith, ltb-false p q e)) (ltb-true p s g) c).1
    go false true false e f g = rw (variable_sym p q, variable_sym p s) (swapped (in_order-either n q s p (ltb-true q s f) (omega (arith, ltb-false p s g)) a).1)
    go false false k e f g = rw (variable_sym p q, variable_sym q s, variable_sym p s) (swapped (in_order-either n s q p (omega (arith, ltb-false q s f)) (omega (arith, ltb-false p q e)) a).0)

-- ---- conclusions

module _ (n : ℕ) (p q s : ℕ) (a : p < n) (b : q < n) (c : s < n) (d : p ≢ q) (e : p ≢ s) (f : q ≢ s) (v : List ℕ) where
  -- centres p, q and s
  by_p : Either (triangles n) (variable_of p q) (variable_of p s) (variable_of q s)
  by_p = rw (variable_sym p q) (either_of n q p s b a c (λ z. d (sym z)) e f)

  by_q : Either (triangles n) (variable_of p q) (variable_of q s) (variable_of p s)
  by_q = either_of n p q s a b c d f e

  by_s : Either (triangles n) (variable_of p s) (variable_of q s) (variable_of p q)
  by_s = rw (variable_sym q s) (either_of n p s q a c b e (λ z. f (sym z)) d)

  pub conclude_forces : (k : ℕ) → k ≤ 1 → Concludes v (variable_of p q) (variable_of p s) k → value_of v (variable_of q s) ≡ 2 → Found v (triangles n) (forcing (saying (variable_of q s) k))
  conclude_forces zero l (alike g h i) o = either_second v by_q g o h
  conclude_forces (suc zero) l (alike g h i) o = subst (λ (m : ℕ). Found v (triangles n) (forcing m)) (omega arith) (either_third v by_p g h o)
  conclude_forces (suc (suc k)) l (alike g h i) o = absurd (omega arith)
  conclude_forces k l (parted g h i) o = rw i (either_second v by_s h o g)

  pub conclude_breaks :
      (k : ℕ) → k ≤ 1 → value_of v (variable_of q s) ≤ 2 → Concludes v (variable_of p q) (variable_of p s) k → value_of v (variable_of q s) ≢ 2
      → value_of v (variable_of q s) ≢ k → Found v (triangles n) broken
  conclude_breaks zero l m (alike g h i) o n = either-broken v by_q g (omega arith) h
  conclude_breaks (suc zero) l m (alike g h i) o n = either-broken v by_p g h (omega arith)
  conclude_breaks (suc (suc k)) l m (alike g h i) o n = absurd (omega arith)
  conclude_breaks k l m (parted g h i) o n = either-broken v by_s h (omega arith) g

-- ---- where no conclusion is left

data Val (x : ℕ) : Type 0 where
  v0 : x ≡ 0 → Val x
  v1 : x ≡ 1 → Val x
  v2 : x ≡ 2 → Val x

val : (x : ℕ) → x ≤ 2 → Val x
val zero h = v0 refl
val (suc zero) h = v1 refl
val (suc (suc zero)) h = v2 refl
val (suc (suc (suc x))) h = absurd (omega arith)

-- if x and y are true so is z; if one is true and z false, the other is false
record Triple (w : List ℕ) (x y z : ℕ) : Type 0 where
  pub third : value_of w x ≡ 1 → value_of w y ≡ 1 → value_of w z ≡ 1
  pub second : value_of w x ≡ 1 → value_of w z ≡ 0 → value_of w y ≡ 0
  pub first : value_of w y ≡ 1 → value_of w z ≡ 0 → value_of w x ≡ 0

swap : {w : List ℕ} {x y z : ℕ} → Triple w x y z → Triple w y x z
swap h = record { third = λ a b. h.third b a; second = h.first; first = h.second }

triple_settled : (w : List ℕ) (x y z : ℕ) → ((i : ℕ) → value_of w i ≤ 2) → Triple w x y z → Settled w (arrow x y z)
unfolding filter
triple_settled w x y z small h = go (val (value_of w x) (small x)) (val (value_of w y) (small y)) (val (value_of w z) (small z))
  where
    go : Val (value_of w x) → Val (value_of w y) → Val (value_of w z) → Settled w (arrow x y z)
    go (v0 e) f g = holds (2 * x + 1) (Memᴰ.head refl) (omega (arith, at_no w x))
    go (v1 e) (v0 f) g = holds (2 * y + 1) (Memᴰ.tail (Memᴰ.head refl)) (omega (arith, at_no w y))
    go (v1 e) (v1 f) g = holds (2 * z) (Memᴰ.tail (Memᴰ.tail (Memᴰ.head refl))) (omega (arith, at_yes w z, h.third e f))
    go (v1 e) (v2 f) (v0 g) = absurd (omega (arith, h.second e g))
    go (v1 e) (v2 f) (v1 g) = holds (2 * z) (Memᴰ.tail (Memᴰ.tail (Memᴰ.head refl))) (omega (arith, at_yes w z))
    go (v1 e) (v2 f) (v2 g) = waits (2 * y + 1) (2 * z) [] (rw (unset_no w x e, unset_no w y f, unset_yes w z g, filter))
    go (v2 e) (v0 f) g = holds (2 * y + 1) (Memᴰ.tail (Memᴰ.head refl)) (omega (arith, at_no w y))
    go (v2 e) (v1 f) (v0 g) = absurd (omega (arith, h.first f g))
    go (v2 e) (v1 f) (v1 g) = holds (2 * z) (Memᴰ.tail (Memᴰ.tail (Memᴰ.head refl))) (omega (arith, at_yes w z))
    go (v2 e) (v1 f) (v2 g) = waits (2 * x + 1) (2 * z) [] (rw (unset_no w x e, unset_no w y f, unset_yes w z g, filter))
    go (v2 e) (v2 f) (v0 g) = waits (2 * x + 1) (2 * y + 1) [] (rw (unset_no w x e, unset_no w y f, unset_yes w z g, filter))
    go (v2 e) (v2 f) (v1 g) = holds (2 * z) (Memᴰ.tail (Memᴰ.tail (Memᴰ.head refl))) (omega (arith, at_yes w z))
    go (v2 e) (v2 f) (v2 g) = waits (2 * x + 1) (2 * y + 1) (2 * z ∷ []) (rw (unset_no w x e, unset_no w y f, unset_yes w z g, filter))

-- x is set: where it is true y and z are alike, and where it is false they are not both true
pub record Agree (w : List ℕ) (x y z : ℕ) : Type 0 where
  pub is_set : value_of w x ≢ 2
  pub alike : value_of w x ≡ 1 → value_of w y ≡ value_of w z
  pub left : value_of w x ≡ 0 → value_of w y ≡ 1 → value_of w z ≡ 0
  pub right : value_of w x ≡ 0 → value_of w z ≡ 1 → value_of w y ≡ 0

module _ {w : List ℕ} {x y z : ℕ} (small : (i : ℕ) → value_of w i ≤ 2) (h : Agree w x y z) where
  -- x with y gives z
  agree_third : Triple w x y z
  agree_third = record { third = λ a b. sym (h.alike a) ∙ b; second = λ a b. h.alike a ∙ b; first = λ a b. go a b (val (value_of w x) (small x)) }
    where
      go : value_of w y ≡ 1 → value_of w z ≡ 0 → Val (value_of w x) → value_of w x ≡ 0
      go a b (v0 e) = e
      go a b (v1 e) = absurd (omega (arith, h.alike e))
      go a b (v2 e) = absurd (h.is_set e)

  turned : Agree w x z y
  turned = record { is_set = h.is_set; alike = λ e. sym (h.alike e); left = h.right; right = h.left }

  -- y with z gives x
  agree_first : Triple w y z x
  agree_first = record { third = λ a b. go a b (val (value_of w x) (small x)); second = λ a b. h.left b a; first = λ a b. h.right b a }
    where
      go : value_of w y ≡ 1 → value_of w z ≡ 1 → Val (value_of w x) → value_of w x ≡ 1
      go a b (v0 e) = absurd (omega (arith, h.left e a))
      go a b (v1 e) = e
      go a b (v2 e) = absurd (h.is_set e)

agree_second : {w : List ℕ} {x y z : ℕ} → ((i : ℕ) → value_of w i ≤ 2) → Agree w x y z → Triple w x z y
agree_second small h = agree_third small (turned small h)

-- a literal of the clause has the variable x
Has : List ℕ → ℕ → Type 0
Has c x = (l : ℕ) × Memᴰ l c × (l / 2 ≡ x)

-- the clause's variables are x, y and z
record Over (c : List ℕ) (x y z : ℕ) : Type 0 where
  pub one_of : (m : ℕ) → Memᴰ m c → (m / 2 ≡ x) ⊎ ((m / 2 ≡ y) ⊎ (m / 2 ≡ z))
  pub has_x : Has c x
  pub has_y : Has c y
  pub has_z : Has c z

arrow_over : (x y z : ℕ) → Over (arrow x y z) x y z
unfolding Has
arrow_over x y z = record {
  one_of = go;
  has_x = (negative x, Memᴰ.head refl, omega arith);
  has_y = (negative y, Memᴰ.tail (Memᴰ.head refl), omega arith);
  has_z = (positive z, Memᴰ.tail (Memᴰ.tail (Memᴰ.head refl)), omega arith);
}
  where
    go : (m : ℕ) → Memᴰ m (arrow x y z) → (m / 2 ≡ x) ⊎ ((m / 2 ≡ y) ⊎ (m / 2 ≡ z))
    go m (Memᴰ.head e) = inl (omega arith)
    go m (Memᴰ.tail (Memᴰ.head e)) = inr (inl (omega arith))
    go m (Memᴰ.tail (Memᴰ.tail (Memᴰ.head e))) = inr (inr (omega arith))
    go m (Memᴰ.tail (Memᴰ.tail (Memᴰ.tail x13))) = elim x13 [ ]

over_turn : {c : List ℕ} {x y z : ℕ} → Over c x y z → Over c y x z
over_turn {c} {x} {y} {z} o = record { one_of = λ m k. go m (o.one_of m k); has_x = o.has_y; has_y = o.has_x; has_z = o.has_z }
  where
    go : (m : ℕ) → (m / 2 ≡ x) ⊎ ((m / 2 ≡ y) ⊎ (m / 2 ≡ z)) → (m / 2 ≡ y) ⊎ ((m / 2 ≡ x) ⊎ (m / 2 ≡ z))
    go m (inl e) = inr (inl e)
    go m (inr (inl e)) = inl e
    go m (inr (inr e)) = inr (inr e)

over_last : {c : List ℕ} {x y z : ℕ} → Over c x y z → Over c x z y
over_last {c} {x} {y} {z} o = record { one_of = λ m k. go m (o.one_of m k); has_x = o.has_x; has_y = o.has_z; has_z = o.has_y }
  where
    go : (m : ℕ) → (m / 2 ≡ x) ⊎ ((m / 2 ≡ y) ⊎ (m / 2 ≡ z)) → (m / 2 ≡ x) ⊎ ((m / 2 ≡ z) ⊎ (m / 2 ≡ y))
    go m (inl e) = inl e
    go m (inr (inl e)) = inr (inr e)
    go m (inr (inr e)) = inr (inl e)

-- the clauses of three states in order: x of the lower two, y of the upper two, z of the outer two
triangle-over : (p q s : ℕ) (c : List ℕ) → Memᴰ c (triangle p q s) → Over c (variable_of p q) (variable_of q s) (variable_of p s)
unfolding triangle
triangle-over p q s c (Memᴰ.head e) = rw e (arrow_over _ _ _)
triangle-over p q s c (Memᴰ.tail (Memᴰ.head e)) = rw e (over_last (arrow_over _ _ _))
triangle-over p q s c (Memᴰ.tail (Memᴰ.tail (Memᴰ.head e))) = rw e (over_last (over_turn (over_last (arrow_over _ _ _))))
triangle-over p q s c (Memᴰ.tail (Memᴰ.tail (Memᴰ.tail x12))) = elim x12 [ ]

triangle_settled :
    (w : List ℕ) (p q s : ℕ) → ((i : ℕ) → value_of w i ≤ 2) → Triple w (variable_of p q) (variable_of q s) (variable_of p s)
    → Triple w (variable_of p q) (variable_of p s) (variable_of q s) → Triple w (variable_of p s) (variable_of q s) (variable_of p q)
    → (c : List ℕ) → Memᴰ c (triangle p q s) → Settled w c
unfolding triangle
triangle_settled w p q s small f g h c (Memᴰ.head e) = rw e (triple_settled w _ _ _ small f)
triangle_settled w p q s small f g h c (Memᴰ.tail (Memᴰ.head e)) = rw e (triple_settled w _ _ _ small g)
triangle_settled w p q s small f g h c (Memᴰ.tail (Memᴰ.tail (Memᴰ.head e))) = rw e (triple_settled w _ _ _ small h)
triangle_settled w p q s small f g h c (Memᴰ.tail (Memᴰ.tail (Memᴰ.tail x12))) = elim x12 [ ]

-- the three states of a clause of the group
record InTriangle (n : ℕ) (c : List ℕ) : Type 0 where
  pub low : ℕ
  pub middle : ℕ
  pub high : ℕ
  pub low_middle : low < middle
  pub middle_high : middle < high
  pub high_in : high < n
  pub here : Memᴰ c (triangle low middle high)

in_some : (n : ℕ) (c : List ℕ) → Memᴰ c (triangles n) → InTriangle n c
unfolding triangles
in_some n c m =
    let a = concat_map-mem _ (upto n) c m in
    let b = concat_map-mem _ (past n a.0) c a.2 in
    let d = concat_map-mem (λ s. triangle a.0 b.0 s) (past n b.0) c b.2 in
    let e = past-mem n a.0 b.0 b.1 in
    let f = past-mem n b.0 d.0 d.1 in
    record { low = a.0; middle = b.0; high = d.0; low_middle = e.0; middle_high = f.0; high_in = f.1; here = d.2 }

-- where nothing is set the group is at rest
pub unset-rest : (n : ℕ) (v : List ℕ) → ((i : ℕ) → value_of v i ≡ 2) → AtRest (triangles n) v
unset-rest n v u c m =
    let i = in_some n c m in
    triangle_settled v i.low i.middle i.high (λ j. omega (arith, u j)) (none _ _ _) (none _ _ _) (none _ _ _) c i.here
  where
    none : (x y z : ℕ) → Triple v x y z
    none x y z = record { third = λ a b. absurd (omega (arith, u x)); second = λ a b. absurd (omega (arith, u x)); first = λ a b. absurd (omega (arith, u y)) }

arrow_one : (x y z : ℕ) → length (filter is_positive (arrow x y z)) ≡ 1
unfolding filter is_positive
arrow_one x y z =
    let first : negative x % 2 ≡ 1 = omega arith in
    let second : negative y % 2 ≡ 1 = omega arith in
    let third : positive z % 2 ≡ 0 = omega arith in
    rw (first, second, third, filter)

triangle-one : (p q s : ℕ) (c : List ℕ) → Memᴰ c (triangle p q s) → length (filter is_positive c) ≤ 1
unfolding triangle
triangle-one p q s c (Memᴰ.head e) = rw e (omega (arith, arrow_one (variable_of p q) (variable_of q s) (variable_of p s)))
triangle-one p q s c (Memᴰ.tail (Memᴰ.head e)) = rw e (omega (arith, arrow_one (variable_of p q) (variable_of p s) (variable_of q s)))
triangle-one p q s c (Memᴰ.tail (Memᴰ.tail (Memᴰ.head e))) = rw e (omega (arith, arrow_one (variable_of p s) (variable_of q s) (variable_of p q)))
triangle-one p q s c (Memᴰ.tail (Memᴰ.tail (Memᴰ.tail x12))) = elim x12 [ ]

-- each clause of the group has one positive literal
pub triangles_horn : (n : ℕ) → Horn (triangles n)
triangles_horn n = record { one = λ c m. let i = in_some n c m in triangle-one i.low i.middle i.high c i.here }

-- no states have none
pub no_triangles : triangles 0 ≡ []
unfolding triangles upto
no_triangles = refl

pub with_none : (ws : List ℕ) → with_triangles ws 0 ≡ clauses_in ws
with_none ws = ap (λ (cs : List (List ℕ)). clauses_in ws ++ cs) no_triangles ∙ append-nil (clauses_in ws)

-- their variables are the pairs of the states
pub triangles-formed : (n : ℕ) → Formed (triangles n) (pairs n)
triangles-formed n = record { below = λ c m l h. let i = in_some n c m in go i.low i.middle i.high i.low_middle i.middle_high i.high_in c i.here l h }
  where
    go : (a b d : ℕ) → a < b → b < d → d < n → (c : List ℕ) → Memᴰ c (triangle a b d) → (l : ℕ) → Memᴰ l c → l / 2 < pairs n
    go a b d h k g c m l o = pick ((triangle-over a b d c m).one_of l o)
      where
        pick : (l / 2 ≡ variable_of a b) ⊎ ((l / 2 ≡ variable_of b d) ⊎ (l / 2 ≡ variable_of a d)) → l / 2 < pairs n
        pick (inl e) = rw e (variable-below n a b (omega arith) (omega arith) (omega arith))
        pick (inr (inl e)) = rw e (variable-below n b d (omega arith) g (omega arith))
        pick (inr (inr e)) = rw e (variable-below n a d (omega arith) g (omega arith))

pub with_formed : {n : ℕ} (ws : List ℕ) {m : ℕ} → (0 < n → m ≡ pairs n) → Formed (clauses_in ws) m → Formed (with_triangles ws n) m
with_formed {n} ws {m} size f = record { below = λ c h l k. pick c l k (append_cases (clauses_in ws) h) }
  where
    pick : (c : List ℕ) (l : ℕ) → Memᴰ l c → Memᴰ c (clauses_in ws) ⊎ Memᴰ c (triangles n) → l / 2 < m
    pick c l k (inl h) = f.below c h l k
    pick c l k (inr h) = rw (size (omega (arith, (in_some n c h).high_in))) ((triangles-formed n).below c h l k)

-- the pair p < q is seen to: with each third state it agrees, or a pair of that state's is in the queue
abbrev pub SeenTo : ℕ → List ℕ → List ℕ → ℕ → ℕ → Type 0
SeenTo n w qs p q = (s : ℕ) → s < n → s ≢ p → s ≢ q → Agree w (variable_of p q) (variable_of p s) (variable_of q s) ⊎ (Memᴰ (variable_of p s) qs ⊎ Memᴰ (variable_of q s) qs)

module _ (n : ℕ) (w qs : List ℕ) (small : (i : ℕ) → value_of w i ≤ 2) (p q : ℕ) (order : p < q) (seen-to : SeenTo n w qs p q) where
  stirred_by : (c : List ℕ) (x : ℕ) → Has c x → Memᴰ x qs → Stirred c qs
  unfolding Has
  stirred_by c x h m = record { literal = h.0; has = h.1; queued = subst (λ (i : ℕ). Memᴰ i qs) (sym h.2) m }

  -- so the clauses of the group that have it are settled, or in the queue
  pub pair_settled : (c : List ℕ) → Memᴰ c (triangles n) → (m : ℕ) → Memᴰ m c → m / 2 ≡ variable_of p q → SettledOr w qs c
  pair_settled c mc m k e = let i = in_some n c mc in go i.low i.middle i.high i.low_middle i.middle_high i.high_in i.here
    where
      go : (a b d : ℕ) → a < b → b < d → d < n → Memᴰ c (triangle a b d) → SettledOr w qs c
      go a b d low_middle middle_high high_in here = which (o.one_of m k)
        where
          o : Over c (variable_of a b) (variable_of b d) (variable_of a d)
          o = triangle-over a b d c here

          -- p and q are the lower two
          lower : (p ≡ a) × (q ≡ b) → Agree w (variable_of p q) (variable_of p d) (variable_of q d) ⊎ (Memᴰ (variable_of p d) qs ⊎ Memᴰ (variable_of q d) qs) → SettledOr w qs c
          lower y (inl g) = let h : Agree w (variable_of a b) (variable_of a d) (variable_of b d) = rw (← y.0, ← y.1) g in inl (triangle_settled w a b d small (agree_second small h) (agree_third small h) (agree_first small h) c here)
          lower y (inr (inl g)) = inr (stirred_by c (variable_of a d) o.has_z (rw (← y.0) g))
          lower y (inr (inr g)) = inr (stirred_by c (variable_of b d) o.has_y (rw (← y.1) g))

          -- the upper two
          upper : (p ≡ b) × (q ≡ d) → Agree w (variable_of p q) (variable_of p a) (variable_of q a) ⊎ (Memᴰ (variable_of p a) qs ⊎ Memᴰ (variable_of q a) qs) → SettledOr w qs c
          upper y (inl g) = let h : Agree w (variable_of b d) (variable_of a b) (variable_of a d) = rw (variable_sym a b, variable_sym a d, ← y.0, ← y.1) g in inl (triangle_settled w a b d small (swap (agree_third small h)) (agree_first small h) (swap (agree_second small h)) c here)
          upper y (inr (inl g)) = inr (stirred_by c (variable_of a b) o.has_x (rw (variable_sym a b, ← y.0) g))
          upper y (inr (inr g)) = inr (stirred_by c (variable_of a d) o.has_z (rw (variable_sym a d, ← y.1) g))

          -- the outer two
          outer : (p ≡ a) × (q ≡ d) → Agree w (variable_of p q) (variable_of p b) (variable_of q b) ⊎ (Memᴰ (variable_of p b) qs ⊎ Memᴰ (variable_of q b) qs) → SettledOr w qs c
          outer y (inl g) = let h : Agree w (variable_of a d) (variable_of a b) (variable_of b d) = rw (variable_sym b d, ← y.0, ← y.1) g in inl (triangle_settled w a b d small (agree_first small h) (swap (agree_third small h)) (agree_second small h) c here)
          outer y (inr (inl g)) = inr (stirred_by c (variable_of a b) o.has_x (rw (← y.0) g))
          outer y (inr (inr g)) = inr (stirred_by c (variable_of b d) o.has_y (rw (variable_sym b d, ← y.1) g))

          which : (m / 2 ≡ variable_of a b) ⊎ ((m / 2 ≡ variable_of b d) ⊎ (m / 2 ≡ variable_of a d)) → SettledOr w qs c
          which (inl g) = let y = variable_injective p q a b order low_middle (sym e ∙ g) in lower y (seen-to d high_in (omega (arith, low_middle, middle_high)) (omega (arith, low_middle, middle_high)))
          which (inr (inl g)) = let y = variable_injective p q b d order middle_high (sym e ∙ g) in upper y (seen-to a (omega (arith, low_middle, middle_high, high_in)) (omega (arith, low_middle, middle_high)) (omega (arith, low_middle, middle_high)))
          which (inr (inr g)) = let y = variable_injective p q a d order (omega (arith, low_middle, middle_high)) (sym e ∙ g) in outer y (seen-to b (omega (arith, middle_high, high_in)) (omega (arith, low_middle, middle_high)) (omega (arith, low_middle, middle_high)))

-- what the conclusions drawn from v have made of it: every one is right in w, and what is not in the queue has its value in v
pub record Drawn (n : ℕ) (v w qs : List ℕ) (p q : ℕ) : Type 0 where
  pub is_set : value_of v (variable_of p q) ≢ 2
  pub kept : value_of w (variable_of p q) ≡ value_of v (variable_of p q)
  pub same : (i : ℕ) → (Memᴰ i qs → ⊥) → value_of w i ≡ value_of v i
  pub from_low : (s k : ℕ) → s < n → s ≢ p → s ≢ q → Concludes v (variable_of p q) (variable_of p s) k → value_of w (variable_of q s) ≡ k
  pub from_high : (s k : ℕ) → s < n → s ≢ p → s ≢ q → Concludes v (variable_of p q) (variable_of q s) k → value_of w (variable_of p s) ≡ k

pub drawn_seen : (n : ℕ) (v w qs : List ℕ) (p q : ℕ) → Drawn n v w qs p q → SeenTo n w qs p q
drawn_seen n v w qs p q h s l a b = go (any (eqb (variable_of p s)) qs) refl (any (eqb (variable_of q s)) qs) refl
  where
    Goal : Type 0
    Goal = Agree w (variable_of p q) (variable_of p s) (variable_of q s) ⊎ (Memᴰ (variable_of p s) qs ⊎ Memᴰ (variable_of q s) qs)

    has : (x : ℕ) → any (eqb x) qs ≡ true → Memᴰ x qs
    has x e = let r = any-true (eqb x) qs e in subst (λ (i : ℕ). Memᴰ i qs) (sym (eqb-true x r.0 r.2)) r.1

    lacks : (x : ℕ) → any (eqb x) qs ≡ false → Memᴰ x qs → ⊥
    lacks x e m = eqb-false x x (any_false (eqb x) qs e x m) refl

    agree : value_of w (variable_of p s) ≡ value_of v (variable_of p s) → value_of w (variable_of q s) ≡ value_of v (variable_of q s) → Agree w (variable_of p q) (variable_of p s) (variable_of q s)
    agree c d = record {
      is_set = λ z. h.is_set (sym h.kept ∙ z);
      alike = λ e. both e (ℕ_discrete (value_of v (variable_of p s)) 2) (ℕ_discrete (value_of v (variable_of q s)) 2);
      left = λ e f. h.from_low s 0 l a b (parted (sym h.kept ∙ e) (sym c ∙ f) refl);
      right = λ e f. h.from_high s 0 l a b (parted (sym h.kept ∙ e) (sym d ∙ f) refl);
    }
      where
        both : value_of w (variable_of p q) ≡ 1 → Dec (value_of v (variable_of p s) ≡ 2) → Dec (value_of v (variable_of q s) ≡ 2) → value_of w (variable_of p s) ≡ value_of w (variable_of q s)
        both e (no i) j = c ∙ sym (h.from_low s (value_of v (variable_of p s)) l a b (alike (sym h.kept ∙ e) refl i))
        both e (yes i) (no j) = h.from_high s (value_of v (variable_of q s)) l a b (alike (sym h.kept ∙ e) refl j) ∙ sym d
        both e (yes i) (yes j) = c ∙ i ∙ sym j ∙ sym d

    go : (x : Bool) → any (eqb (variable_of p s)) qs ≡ x → (y : Bool) → any (eqb (variable_of q s)) qs ≡ y → Goal
    go true e y f = inr (inl (has (variable_of p s) e))
    go false e true f = inr (inr (has (variable_of q s) f))
    go false e false f = inl (agree (h.same (variable_of p s) (lacks (variable_of p s) e)) (h.same (variable_of q s) (lacks (variable_of q s) f)))
