-- The bits of a word. Assumes nothing.
use mathlib.Core.Path.{◌≡◌, ◌∙◌, ap}
use mathlib.Core.Logic.{◌≢◌, ◌⊎◌, inl, inr}
use mathlib.Core.Bool.{true}
use mathlib.Core.List.{List}
use Prim.Native.Nat.{ℕ, zero, suc, ◌+◌, ◌-◌, ◌*◌, ◌/◌, ◌%◌, ◌^◌, ◌<◌, ◌≤◌, max}
use native.Mathlib.Omega.{arith}
use native.Mathlib.Nat.{div-div-eq-div-mul, pow-succ', div-one, div_self, div-eq_of_lt}
use native.Mathlib.Decide.{ℕ_discrete, dec_lt}
use lib.Bits.{bit_or, or_shr, or_step}
use lib.Pow.{pow_pos, pow-add, shl-shr, pow-lt}
use lib.ListN.{get_or}
use borrow.Author.Tests.{eqb-true, eq-eqb}
use Rattle.lists.specs.Bits.{Bit, has_bit, has}

pub bit-or : (a b x : ℕ) → bit_or a b / 2 ^ x % 2 ≡ max (a / 2 ^ x % 2) (b / 2 ^ x % 2)
bit-or a b x = omega (arith, or_shr a b x, or_step (a / 2 ^ x) (b / 2 ^ x))

pub or-bit : (a b x : ℕ) → Bit (bit_or a b) x → Bit a x ⊎ Bit b x
or-bit a b x h = go (ℕ_discrete (a / 2 ^ x % 2) 1)
  where
    go : Dec (Bit a x) → Bit a x ⊎ Bit b x
    go (yes e) = inl e
    go (no n) = inr (omega (arith, bit-or a b x))

pub bit-left : (a b x : ℕ) → Bit a x → Bit (bit_or a b) x
bit-left a b x h = omega (arith, bit-or a b x)

pub bit-right : (a b x : ℕ) → Bit b x → Bit (bit_or a b) x
bit-right a b x h = omega (arith, bit-or a b x)

pub no_bit : (x : ℕ) → Bit 0 x → ⊥
no_bit x h = omega (arith, div-eq_of_lt (pow_pos x))

-- a power of two has one bit
pub bit-own : (q : ℕ) → Bit (2 ^ q) q
bit-own q = rw (div_self (pow_pos q))

below : (x d : ℕ) → 2 ^ (suc d + x) / 2 ^ x ≡ 2 * 2 ^ d
below x d = rw (pow-add, shl-shr, pow-succ')

pub bit-pow : (q x : ℕ) → Bit (2 ^ q) x → x ≡ q
bit-pow q x h = go (dec_lt x q) (dec_lt q x)
  where
    less : (d : ℕ) → q ≡ suc d + x → x ≡ q
    less d e = let f : 2 ^ q / 2 ^ x ≡ 2 * 2 ^ d = ap (λ n. 2 ^ n / 2 ^ x) e ∙ below x d in omega arith

    go : Dec (x < q) → Dec (q < x) → x ≡ q
    go (yes l) d = less (q - suc x) (omega arith)
    go (no l) (yes g) = omega (arith, div-eq_of_lt (pow-lt g))
    go (no l) (no g) = omega arith

-- a word that is not 0 has a bit
bit-zero : (w : ℕ) → w % 2 ≡ 1 → Bit w 0
bit-zero w e = rw (div-one, e)

bit-suc : (w x : ℕ) → Bit (w / 2) x → Bit w (suc x)
bit-suc w x h = rw (pow-succ', ← div-div-eq-div-mul) h

pub some-bit : (n w : ℕ) → w ≤ n → w ≢ 0 → (x : ℕ) × Bit w x
some-bit zero w h k = absurd (omega arith)
some-bit (suc n) w h k = go (ℕ_discrete (w % 2) 1) (some-bit n (w / 2) (omega arith))
  where
    up : (x : ℕ) × Bit (w / 2) x → (x : ℕ) × Bit w x
    up (x, b) = (suc x, bit-suc w x b)

    go : Dec (w % 2 ≡ 1) → (w / 2 ≢ 0 → (x : ℕ) × Bit (w / 2) x) → (x : ℕ) × Bit w x
    go (yes e) k' = (0, bit-zero w e)
    go (no e) k' = up (k' (omega arith))

-- the test
pub has-true : (f : List ℕ) (q x : ℕ) → has f q x ≡ true → Bit (get_or f q 0) x
unfolding has has_bit
has-true f q x e = eqb-true _ _ e

pub has_of : (f : List ℕ) (q x : ℕ) → Bit (get_or f q 0) x → has f q x ≡ true
unfolding has has_bit
has_of f q x h = eq-eqb _ _ h
