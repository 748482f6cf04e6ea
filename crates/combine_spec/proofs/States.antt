-- The states of two tables combined: how many, and their bytes. Assumes nothing.
use mathlib.Core.Path.{◌≡◌, refl, sym, ap, ◌∙◌, subst}
use mathlib.Core.Logic.{◌↔◌, ◌⊎◌, inl, inr}
use mathlib.Core.Bool.{Bool, true, false, ◌&&◌, ◌||◌}
use Prim.Native.Nat.{ℕ, ◌+◌, ◌-◌, ◌*◌, ◌/◌, ◌%◌, ◌<◌, ◌≤◌}
use native.Mathlib.Nat.{le-div_iff_mul-le}
use native.Mathlib.Omega.{arith}
use native.Mathlib.Decide.{dec_lt}
use lib.ListN.{length-append, get_or-append, get_or-eq_default}
use lib.Seq.{get_or-append-add}
use lib.Dec.{eqb}
use borrow.Author.Tests.{eqb-true, eq-eqb}
use Rattle.lists.proofs.Members.{and-true, and_of}
use Rattle.table_spec.specs.File.{Table}
use Rattle.table_spec.specs.Reading.{is_initial, is_accepting, state_byte_most, version_fits}
use Rattle.table_spec.specs.Language.{count, byte_of, mark_of}
use Rattle.quotient_spec.specs.Quotient.{bit_of}
use Rattle.quotient_spec.proofs.States.{bit-small, low_bit, high_bit}
use Rattle.generate_spec.proofs.Bytes.{length-each, get_d_each}
use Rattle.combine_spec.specs.Combine.{later_version, first_of, second_of, pair_byte, intersection_table, union_table}

-- ---- a pair's byte

module _ (x y : ℕ) where
  pub byte_initial : pair_byte x y % 2 ≡ 1 ↔ (x % 2 ≡ 1) × (y % 2 ≡ 1)
  unfolding pair_byte is_initial
  byte_initial = (
    λ e. let k = and-true _ _ ((low_bit _ _ _).0 e) in (eqb-true _ _ k.0, eqb-true _ _ k.1),
    λ (h, k). (low_bit _ _ _).1 (and_of (eq-eqb _ _ h) (eq-eqb _ _ k)),
  )

  pub byte_accepting : pair_byte x y / 2 % 2 ≡ 1 ↔ (x / 2 % 2 ≡ 1) × (y / 2 % 2 ≡ 1)
  unfolding pair_byte is_accepting
  byte_accepting = (
    λ e. let k = and-true _ _ ((high_bit _ _ _).0 e) in (eqb-true _ _ k.0, eqb-true _ _ k.1),
    λ (h, k). (high_bit _ _ _).1 (and_of (eq-eqb _ _ h) (eq-eqb _ _ k)),
  )

  -- "marks are the first's"
  pub byte_mark : mark_of (pair_byte x y) ≡ mark_of x
  unfolding pair_byte mark_of
  byte_mark = omega (arith, bit-small (is_initial x && is_initial y), bit-small (is_accepting x && is_accepting y))

  pub byte_small : pair_byte x y ≤ 4 * (x / 4) + 3
  unfolding pair_byte mark_of
  byte_small = omega (arith, bit-small (is_initial x && is_initial y), bit-small (is_accepting x && is_accepting y))

-- past the first's states there is none
none_byte : (y : ℕ) → pair_byte 0 y ≡ 0
unfolding pair_byte is_initial is_accepting mark_of bit_of
none_byte y = refl

-- ---- the intersection's states

module _ (t u : Table) where
  pub intersection_count : count (intersection_table t u) ≡ count t * count u
  unfolding intersection_table
  intersection_count = length-each (λ x. pair_byte (byte_of t (first_of (count u) x)) (byte_of u (second_of (count u) x))) (count t * count u)

  pub intersection_byte : 0 < count u → (x : ℕ) → byte_of (intersection_table t u) x ≡ pair_byte (byte_of t (first_of (count u) x)) (byte_of u (second_of (count u) x))
  unfolding intersection_table
  intersection_byte some x = go (dec_lt x (count t * count u))
    where
      go : Dec (x < count t * count u) → byte_of (intersection_table t u) x ≡ pair_byte (byte_of t (first_of (count u) x)) (byte_of u (second_of (count u) x))
      go (yes h) = get_d_each (λ x. pair_byte (byte_of t (first_of (count u) x)) (byte_of u (second_of (count u) x))) (count t * count u) x h
      go (no h) =
          let past : count t ≤ first_of (count u) x = (le-div_iff_mul-le some).1 (omega arith) in
          let none : byte_of t (first_of (count u) x) ≡ 0 = get_or-eq_default t.states 0 past in
          get_or-eq_default (intersection_table t u).states 0 {n = x} (omega (arith, intersection_count)) ∙ sym (ap (λ b. pair_byte b (byte_of u (second_of (count u) x))) none ∙ none_byte _)

  -- ---- the union's

  pub union_count : count (union_table t u) ≡ count t + count u
  unfolding union_table
  union_count = length-append t.states u.states

  pub union_first : {x : ℕ} → x < count t → byte_of (union_table t u) x ≡ byte_of t x
  unfolding union_table
  union_first {x} h = get_or-append t.states u.states 0 x h

  pub union_second : (x : ℕ) → byte_of (union_table t u) (count t + x) ≡ byte_of u x
  unfolding union_table
  union_second x = get_or-append-add t.states u.states x 0

  -- what holds of a state's byte holds of that of one of the two
  pub union_state : (P : ℕ → Type 0) (x : ℕ) → (x < count (union_table t u)) × P (byte_of (union_table t u) x)
      ↔ (((p : ℕ) × (p ≡ x) × ((p < count t) × P (byte_of t p))) ⊎ ((q : ℕ) × (count t + q ≡ x) × ((q < count u) × P (byte_of u q))))
  union_state P x = (λ (h, k). forth h k (dec_lt x (count t)), back)
    where
      forth :
          x < count (union_table t u) → P (byte_of (union_table t u) x) → Dec (x < count t)
          → ((p : ℕ) × (p ≡ x) × ((p < count t) × P (byte_of t p))) ⊎ ((q : ℕ) × (count t + q ≡ x) × ((q < count u) × P (byte_of u q)))
      forth h k (yes l) = inl (x, refl, (l, subst P (union_first l) k))
      forth h k (no l) =
          let e : count t + (x - count t) ≡ x = omega arith in
          inr (x - count t, e, (omega (arith, union_count), subst P (ap (byte_of (union_table t u)) (sym e) ∙ union_second (x - count t)) k))

      back : ((p : ℕ) × (p ≡ x) × ((p < count t) × P (byte_of t p))) ⊎ ((q : ℕ) × (count t + q ≡ x) × ((q < count u) × P (byte_of u q))) → (x < count (union_table t u)) × P (byte_of (union_table t u) x)
      back (inl (p, e, (l, k))) = (omega (arith, union_count), subst P (sym (union_first l) ∙ ap (byte_of (union_table t u)) e) k)
      back (inr (q, e, (l, k))) = (omega (arith, union_count), subst P (sym (union_second q) ∙ ap (byte_of (union_table t u)) e) k)

-- a state whose byte has a bit is there
there : (bit : ℕ → ℕ) → bit 0 ≡ 0 → (t : Table) (q : ℕ) → bit (byte_of t q) ≡ 1 → q < count t
there bit z t q e = go (dec_lt q (count t))
  where
    go : Dec (q < count t) → q < count t
    go (yes l) = l
    go (no l) = absurd (omega (arith, ap bit (get_or-eq_default t.states 0 {n = q} (omega arith))))

-- a bit of a byte is that of a state of one of the two
pub union_bit :
    (t u : Table) (bit : ℕ → ℕ) → bit 0 ≡ 0 → (x : ℕ)
    → bit (byte_of (union_table t u) x) ≡ 1 ↔ (((p : ℕ) × (p ≡ x) × (bit (byte_of t p) ≡ 1)) ⊎ ((q : ℕ) × (count t + q ≡ x) × (bit (byte_of u q) ≡ 1)))
union_bit t u bit z x = (λ e. forth ((union_state t u (λ b. bit b ≡ 1) x).0 (there bit z (union_table t u) x e, e)), back)
  where
    forth :
        ((p : ℕ) × (p ≡ x) × ((p < count t) × (bit (byte_of t p) ≡ 1))) ⊎ ((q : ℕ) × (count t + q ≡ x) × ((q < count u) × (bit (byte_of u q) ≡ 1)))
        → ((p : ℕ) × (p ≡ x) × (bit (byte_of t p) ≡ 1)) ⊎ ((q : ℕ) × (count t + q ≡ x) × (bit (byte_of u q) ≡ 1))
    forth (inl (p, e, (l, k))) = inl (p, e, k)
    forth (inr (q, e, (l, k))) = inr (q, e, k)

    back : ((p : ℕ) × (p ≡ x) × (bit (byte_of t p) ≡ 1)) ⊎ ((q : ℕ) × (count t + q ≡ x) × (bit (byte_of u q) ≡ 1)) → bit (byte_of (union_table t u) x) ≡ 1
    back (inl (p, e, k)) = ((union_state t u (λ b. bit b ≡ 1) x).1 (inl (p, e, (there bit z t p k, k)))).1
    back (inr (q, e, k)) = ((union_state t u (λ b. bit b ≡ 1) x).1 (inr (q, e, (there bit z u q k, k)))).1

-- ---- the version

pub later-fits : (v w : ℕ) → version_fits (later_version v w) ≡ true
unfolding later_version version_fits
later-fits v w = go (eqb v 2 || eqb w 2)
  where
    go : (b : Bool) → version_fits (elim b as (λ _. ℕ) [ true ↦ 2 | false ↦ 1 ]) ≡ true
    go true = refl
    go false = refl

-- a byte of either is within the limit
module _ (v w : ℕ) where
  pub first-most : state_byte_most v ≤ state_byte_most (later_version v w)
  unfolding later_version state_byte_most
  first-most = go (eqb v 2) (eqb w 2)
    where
      go : (a b : Bool) → elim a as (λ _. ℕ) [ true ↦ 63 | false ↦ 3 ] ≤ state_byte_most (elim (a || b) as (λ _. ℕ) [ true ↦ 2 | false ↦ 1 ])
      go true b = omega arith
      go false true = omega arith
      go false false = omega arith

  pub second-most : state_byte_most w ≤ state_byte_most (later_version v w)
  unfolding later_version state_byte_most
  second-most = go (eqb v 2) (eqb w 2)
    where
      go : (a b : Bool) → elim b as (λ _. ℕ) [ true ↦ 63 | false ↦ 3 ] ≤ state_byte_most (elim (a || b) as (λ _. ℕ) [ true ↦ 2 | false ↦ 1 ])
      go true true = omega arith
      go true false = omega arith
      go false true = omega arith
      go false false = omega arith
