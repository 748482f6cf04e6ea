-- The lowest bit of a word, and the word without it: so a word's bits are walked in ascending order. Assumes nothing.
use mathlib.Core.Path.{◌≡◌, refl, sym, ap, ◌∙◌}
use mathlib.Core.Logic.{◌≢◌}
use mathlib.Core.Bool.{true, false}
use mathlib.Core.List.{List, [], ◌∷◌, ◌++◌}
use Prim.Native.Nat.{ℕ, zero, suc, ◌-◌, ◌/◌, ◌%◌, ◌^◌, ◌<◌, ◌≤◌}
use native.Mathlib.Omega.{arith}
use native.Mathlib.Nat.{pow-succ', le-div_iff_mul-le}
use native.Mathlib.Decide.{ℕ_discrete}
use lib.Pow.{pow_pos}
use lib.Count.{count_trailing_zeros, under}
use lib.Dec.{eqb}
use borrow.Author.Tests.{eq-eqb, ne_eqb}
use Rattle.lists.specs.Lists.{filter, upto}
use Rattle.lists.specs.Bits.{Bit, has_bit}
use Rattle.lists.proofs.Bits.{no_bit}
use Rattle.lists.proofs.Counts.{filter-append}
use Rattle.lists.proofs.Words.{bit-zero, bit-suc}

-- x is the lowest bit of w
pub record LowestBit (w x : ℕ) : Type 0 where
  pub own : Bit w x
  pub least : (y : ℕ) → Bit w y → x ≤ y

-- the trailing zeros of a word that is not 0 count up to its lowest bit
pub trailing_lowest : (k w : ℕ) → w < 2 ^ k → w ≢ 0 → (count_trailing_zeros k w < k) × LowestBit w (count_trailing_zeros k w)
unfolding count_trailing_zeros
trailing_lowest zero w l n = absurd (n (omega arith))
trailing_lowest (suc k) w l n = go (w % 2) refl (trailing_lowest k (w / 2) (omega (arith, pow-succ' 2 k)))
  where
    go :
        (d : ℕ) → w % 2 ≡ d → (w / 2 ≢ 0 → (count_trailing_zeros k (w / 2) < k) × LowestBit (w / 2) (count_trailing_zeros k (w / 2)))
        → (under d (count_trailing_zeros k (w / 2)) < suc k) × LowestBit w (under d (count_trailing_zeros k (w / 2)))
    go zero e r =
        let h = r (λ z. n (omega arith)) in
        (omega arith, record { own = bit-suc w _ ∙ h.1.own; least = λ y b. up y b h.1 })
      where
        up : (y : ℕ) → Bit w y → LowestBit (w / 2) (count_trailing_zeros k (w / 2)) → suc (count_trailing_zeros k (w / 2)) ≤ y
        up zero b s = absurd (omega (arith, bit-zero w))
        up (suc y) b s = let g = s.least y (sym (bit-suc w y) ∙ b) in omega arith
    go (suc d) e r = (omega arith, record { own = bit-zero w ∙ omega arith; least = λ y b. omega arith })

-- ---- the word without a bit

pub bit_le : (w x : ℕ) → Bit w x → 2 ^ x ≤ w
bit_le w x b = let h = (le-div_iff_mul-le {k = 2 ^ x} {x = 1} {y = w} (pow_pos x)).0 (omega arith) in omega arith

pub clear_own : (w x : ℕ) → Bit w x → ¬ Bit (w - 2 ^ x) x
clear_own w zero b c = omega (arith, bit-zero w, bit-zero (w - 1))
clear_own w (suc x) b c =
    let h : Bit (w / 2) x = sym (bit-suc w x) ∙ b in
    let e : (w - 2 ^ suc x) / 2 ≡ w / 2 - 2 ^ x = omega (arith, pow-succ' 2 x, bit_le (w / 2) x h) in
    clear_own (w / 2) x h (ap (λ v. v / 2 ^ x % 2) (sym e) ∙ sym (bit-suc (w - 2 ^ suc x) x) ∙ c)

pub clear_other : (w x y : ℕ) → Bit w x → y ≢ x → (w - 2 ^ x) / 2 ^ y % 2 ≡ w / 2 ^ y % 2
clear_other w zero zero b n = absurd (n refl)
clear_other w zero (suc y) b n =
    let e : (w - 1) / 2 ≡ w / 2 = omega (arith, bit-zero w) in
    bit-suc (w - 1) y ∙ ap (λ v. v / 2 ^ y % 2) e ∙ sym (bit-suc w y)
clear_other w (suc x) zero b n =
    let h = bit_le w (suc x) b in
    bit-zero (w - 2 ^ suc x) ∙ omega (arith, pow-succ' 2 x, bit-zero w)
clear_other w (suc x) (suc y) b n =
    let h : Bit (w / 2) x = sym (bit-suc w x) ∙ b in
    let e : (w - 2 ^ suc x) / 2 ≡ w / 2 - 2 ^ x = omega (arith, pow-succ' 2 x, bit_le (w / 2) x h) in
    bit-suc (w - 2 ^ suc x) y ∙ ap (λ v. v / 2 ^ y % 2) e ∙ clear_other (w / 2) x y h (λ f. n (ap suc f)) ∙ sym (bit-suc w y)

-- ---- the bits in ascending order

-- what a last element adds
lasts : (w k : ℕ) → filter (has_bit w) (upto (suc k)) ≡ filter (has_bit w) (upto k) ++ filter (has_bit w) (k ∷ [])
unfolding upto
lasts w k = filter-append (has_bit w) (upto k) (k ∷ [])

without : (w k : ℕ) → ¬ Bit w k → filter (has_bit w) (k ∷ []) ≡ []
unfolding filter has_bit
without w k n = rw (ne_eqb (w / 2 ^ k % 2) 1 n, filter)

with_it : (w k : ℕ) → Bit w k → filter (has_bit w) (k ∷ []) ≡ k ∷ []
unfolding filter has_bit
with_it w k b = rw (eq-eqb (w / 2 ^ k % 2) 1 b, filter)

alike : (w v k : ℕ) → w / 2 ^ k % 2 ≡ v / 2 ^ k % 2 → filter (has_bit w) (k ∷ []) ≡ filter (has_bit v) (k ∷ [])
unfolding filter has_bit
alike w v k e = ap {B = List ℕ} (λ d. elim (eqb d 1) [ true ↦ k ∷ [] | false ↦ [] ]) e

-- none
pub filter_none : (n w : ℕ) → ((x : ℕ) → x < n → ¬ Bit w x) → filter (has_bit w) (upto n) ≡ []
unfolding filter upto
filter_none zero w h = refl
filter_none (suc n) w h = lasts w n ∙ (λ i. filter_none n w (λ x l. h x (omega arith)) i ++ without w n (h n (omega arith)) i)

-- the lowest first, then those of the word without it
pub filter-lowest : (n w x : ℕ) → LowestBit w x → x < n → filter (has_bit w) (upto n) ≡ x ∷ filter (has_bit (w - 2 ^ x)) (upto n)
filter-lowest zero w x s l = absurd (omega arith)
filter-lowest (suc n) w x s l = go (ℕ_discrete x n) (filter-lowest n w x s)
  where
    low : (y : ℕ) → y < x → ¬ Bit w y
    low y k b = let g = s.least y b in omega arith

    lower : (y : ℕ) → y < x → ¬ Bit (w - 2 ^ x) y
    lower y k b = low y k (sym (clear_other w x y s.own (λ e. omega arith)) ∙ b)

    ended : x ≡ n → filter (has_bit (w - 2 ^ x)) (upto (suc n)) ≡ []
    ended e = filter_none (suc n) (w - 2 ^ x) (λ y k. own y (ℕ_discrete y x) k)
      where
        own : (y : ℕ) → Dec (y ≡ x) → y < suc n → ¬ Bit (w - 2 ^ x) y
        own y (yes f) k b = clear_own w x s.own (rw f at b)
        own y (no f) k b = lower y (omega arith) b

    go : Dec (x ≡ n) → (x < n → filter (has_bit w) (upto n) ≡ x ∷ filter (has_bit (w - 2 ^ x)) (upto n)) → filter (has_bit w) (upto (suc n)) ≡ x ∷ filter (has_bit (w - 2 ^ x)) (upto (suc n))
    go (yes e) ih =
        let b : Bit w n = rw e at s.own in
        lasts w n ∙ (λ i. filter_none n w (λ y k. low y (omega arith)) i ++ with_it w n b i) ∙ (λ i. sym e i ∷ sym (ended e) i)
    go (no d) ih =
        let k : x < n = omega arith in
        lasts w n ∙ (λ i. ih k i ++ alike w (w - 2 ^ x) n (sym (clear_other w x n s.own (λ e. d (sym e)))) i) ∙ ap (λ ys. x ∷ ys) (sym (lasts (w - 2 ^ x) n))

-- ---- the walk by trailing zeros

-- the next bit below n, if the trailing zeros of a word of k bits stand below n
pub filter-next : (k n w : ℕ) → w < 2 ^ k → w ≢ 0 → count_trailing_zeros k w < n → filter (has_bit w) (upto n) ≡ count_trailing_zeros k w ∷ filter (has_bit (w - 2 ^ count_trailing_zeros k w)) (upto n)
filter-next k n w l z h = filter-lowest n w (count_trailing_zeros k w) (trailing_lowest k w l z).1 h

-- and none, if they do not
pub filter-ended : (k n w : ℕ) → w < 2 ^ k → n ≤ count_trailing_zeros k w → filter (has_bit w) (upto n) ≡ []
filter-ended k n w l h = filter_none n w (λ x m b. go (ℕ_discrete w 0) x m b)
  where
    go : Dec (w ≡ 0) → (x : ℕ) → x < n → ¬ Bit w x
    go (yes e) x m b = no_bit x (rw e at b)
    go (no z) x m b = let g = (trailing_lowest k w l z).1.least x b in omega arith
