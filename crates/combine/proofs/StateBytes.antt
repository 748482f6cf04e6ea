-- The bytes of the states, one by one. Assumes nothing.
use mathlib.Core.Path.{◌≡◌, refl, sym, ap, ◌∙◌, subst}
use mathlib.Core.Logic.{◌≢◌}
use mathlib.Core.Bool.{Bool, true, false, ◌&&◌}
use mathlib.Core.List.{List, ◌++◌}
use Prim.Native.Nat.{ℕ, zero, suc, ◌+◌, ◌-◌, ◌*◌, ◌/◌, ◌%◌, ◌<◌, ◌≤◌}
use native.Mathlib.Nat.{div-lt_iff_lt-mul, mod-lt, mul-zero}
use native.Mathlib.Omega.{arith}
use lib.ListN.{length, get_or, length-append, length-map, get_or-append}
use lib.Seq.{get_or-append-add}
use borrow.Author.Tests.{eq-eqb, ne_eqb}
use Rattle.lists.specs.Lists.{upto}
use Rattle.lists.proofs.Members.{get_d_map, length-upto, get_d_upto}
use Rattle.table_spec.specs.Reading.{is_initial, is_accepting}
use Rattle.table_spec.specs.Language.{mark_of}
use Rattle.quotient_spec.specs.Quotient.{bit_of}
use Rattle.combine_spec.specs.Combine.{pair_byte, later_version}
use Rattle.combine_spec.specs.declared.How.{How}
use Rattle.combine_spec.specs.declared.How.TheVariants.{Intersection, Union}
use Rattle.combine.specs.Parts.{state_count, state_bytes}

pub count-product : {how : How} (n m : ℕ) → how ≡ Intersection → n * m ≡ state_count how n m
unfolding state_count
count-product n m e = sym (rw (e, state_count))

pub count-sum : {how : How} (n m : ℕ) → how ≡ Union → n + m ≡ state_count how n m
unfolding state_count
count-sum n m e = sym (rw (e, state_count))

-- ---- a pair's byte

module _ (x y : ℕ) where
  pub first_even : x % 2 ≢ 1 → 0 ≡ bit_of (is_initial x && is_initial y)
  unfolding is_initial bit_of
  first_even e = sym (rw (ne_eqb (x % 2) 1 e, bit_of))

  pub second_even : y % 2 ≢ 1 → 0 ≡ bit_of (is_initial x && is_initial y)
  unfolding is_initial bit_of
  second_even e = go (is_initial x) (ne_eqb (y % 2) 1 e)
    where
      go : (t : Bool) → is_initial y ≡ false → 0 ≡ bit_of (t && is_initial y)
      go true f = sym (rw (f, bit_of))
      go false f = refl

  pub both_odd : x % 2 ≡ 1 → y % 2 ≡ 1 → 1 ≡ bit_of (is_initial x && is_initial y)
  unfolding is_initial bit_of
  both_odd e f = sym (rw (eq-eqb (x % 2) 1 e, eq-eqb (y % 2) 1 f, bit_of))

  pub byte_of : {a b : ℕ} → a ≡ bit_of (is_initial x && is_initial y) → b ≡ bit_of (is_initial (x / 2) && is_initial (y / 2)) → a + 2 * b + 4 * (x / 4) ≡ pair_byte x y
  unfolding pair_byte is_initial is_accepting mark_of
  byte_of e f = λ i. e i + 2 * f i + 4 * (x / 4)

-- ---- a state's byte

module _ (f s : List ℕ) where
  pub product-some : {x : ℕ} → x < length f * length s → 1 ≤ length s
  product-some {x} l = go (length s) refl
    where
      go : (k : ℕ) → length s ≡ k → 1 ≤ length s
      go zero e = absurd (omega (arith, ap (λ k. length f * k) e, mul-zero (length f)))
      go (suc k) e = omega arith

  pub product-first : {x : ℕ} → x < length f * length s → x / length s < length f
  product-first l = (div-lt_iff_lt-mul (product-some l)).1 l

  pub product-second : {x : ℕ} → x < length f * length s → x % length s < length s
  product-second {x} l = mod-lt x (product-some l)

  pub product_byte : {x r : ℕ} → x < length f * length s → r ≡ pair_byte (get_or f (x / length s) 0) (get_or s (x % length s) 0) → r ≡ get_or (state_bytes Intersection f s) x 0
  unfolding state_bytes
  product_byte {x} l e =
      e ∙ ap (λ y. pair_byte (get_or f (y / length s) 0) (get_or s (y % length s) 0)) (sym (get_d_upto (length f * length s) x 0 l))
      ∙ sym (get_d_map (λ y. pair_byte (get_or f (y / length s) 0) (get_or s (y % length s) 0)) (upto (length f * length s)) x 0 0 (omega (arith, length-upto (length f * length s))))

  pub sum_first : {x : ℕ} → x < length f → get_or f x 0 ≡ get_or (state_bytes Union f s) x 0
  unfolding state_bytes
  sum_first {x} l = sym (get_or-append f s 0 x l)

  pub sum-second : {x : ℕ} → length f ≤ x → get_or s (x - length f) 0 ≡ get_or (state_bytes Union f s) x 0
  unfolding state_bytes
  sum-second {x} l = let e : length f + (x - length f) ≡ x = omega arith in sym (get_or-append-add f s (x - length f) 0) ∙ ap (λ y. get_or (f ++ s) y 0) e

  pub sum_inside : {x : ℕ} → x < state_count Union (length f) (length s) → length f ≤ x → x - length f < length s
  unfolding state_count
  sum_inside l h = omega arith

  pub bytes-long : (how : How) → length (state_bytes how f s) ≡ state_count how (length f) (length s)
  unfolding state_bytes state_count
  bytes-long (Intersection) = length-map (upto (length f * length s)) (λ x. pair_byte (get_or f (x / length s) 0) (get_or s (x % length s) 0)) ∙ length-upto (length f * length s)
  bytes-long (Union) = length-append f s

-- by the way
pub product-counted : {how : How} (n m : ℕ) {x : ℕ} → how ≡ Intersection → x < state_count how n m → x < n * m
unfolding state_count
product-counted n m {x} e l = subst (λ h. x < state_count h n m) e l

pub sum-counted : {how : How} (n m : ℕ) {x : ℕ} → how ≡ Union → x < state_count how n m → x < state_count Union n m
sum-counted n m {x} e l = subst (λ h. x < state_count h n m) e l

pub byte_as : {how way : How} (f s : List ℕ) (x : ℕ) {r : ℕ} → how ≡ way → r ≡ get_or (state_bytes way f s) x 0 → r ≡ get_or (state_bytes how f s) x 0
byte_as f s x {r} e d = subst (λ h. r ≡ get_or (state_bytes h f s) x 0) (sym e) d

-- ---- the version

pub first-later : {v : ℕ} (w : ℕ) → v ≡ 2 → 2 ≡ later_version v w
unfolding later_version
first-later {v} w e = sym (rw (eq-eqb v 2 e, later_version))

pub second-later : {v w : ℕ} → v ≢ 2 → w ≡ 2 → 2 ≡ later_version v w
unfolding later_version
second-later {v} {w} d e = sym (rw (ne_eqb v 2 d, eq-eqb w 2 e, later_version))

pub none-later : {v w : ℕ} → v ≢ 2 → w ≢ 2 → 1 ≡ later_version v w
unfolding later_version
none-later {v} {w} d e = sym (rw (ne_eqb v 2 d, ne_eqb w 2 e, later_version))
