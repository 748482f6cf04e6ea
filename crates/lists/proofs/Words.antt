-- Words as sets of their bits: one within another, how many bits are 1. Assumes nothing.
use mathlib.Core.Path.{◌≡◌, refl, sym, ap, ◌∙◌}
use mathlib.Core.Logic.{◌≢◌}
use mathlib.Core.Bool.{Bool, true, false, ◌&&◌, true≢false}
use mathlib.Core.List.{List, [], ◌∷◌, ◌++◌, append-nil, map}
use Prim.Native.Nat.{ℕ, zero, suc, ◌+◌, ◌/◌, ◌%◌, ◌^◌, ◌<◌, ◌≤◌}
use native.Mathlib.Omega.{arith}
use native.Mathlib.Nat.{div-div-eq-div-mul, pow-succ', div-one, le_refl, lt_of_lt_of_le, div-lt_iff_lt-mul}
use native.Mathlib.Decide.{ℕ_discrete, dec_lt}
use lib.Pow.{pow_pos, pow_mono, shr-shr}
use lib.Count.{ones_in, ones, ones_step}
use lib.ListN.{length, get_or, take, replicate, length-append}
use lib.Seq.{take-suc, take-length}
use lib.Dec.{eqb}
use borrow.Author.Tests.{eqb-true, eqb-false, ne_eqb}
use Rattle.lists.specs.Lists.{filter, upto, same}
use Rattle.lists.specs.Bits.{Bit, has_bit, has, ones_over}
use Rattle.lists.proofs.Bits.{some-bit, no_bit}
use Rattle.lists.proofs.Counts.{filter-append, filter_map, concat_map-append, grid}

-- ---- bit by bit

pub bit-zero : (w : ℕ) → w / 2 ^ 0 % 2 ≡ w % 2
bit-zero w = rw div-one

pub bit-suc : (w x : ℕ) → w / 2 ^ suc x % 2 ≡ w / 2 / 2 ^ x % 2
bit-suc w x = rw (pow-succ', ← div-div-eq-div-mul)

-- a word within another that differs from it lacks one of its bits
pub new-bit : (n a b : ℕ) → b ≤ n → ((x : ℕ) → Bit a x → Bit b x) → a ≢ b → (x : ℕ) × Bit b x × ¬ Bit a x
new-bit zero a b h k d = none (some-bit a a (le_refl a) (omega arith))
  where
    none : (x : ℕ) × Bit a x → (x : ℕ) × Bit b x × ¬ Bit a x
    none (x, e) = let z : b ≡ 0 = omega arith in absurd (no_bit x (rw z at (k x e)))
new-bit (suc n) a b h k d = go (ℕ_discrete (a % 2) (b % 2)) (new-bit n (a / 2) (b / 2) (omega arith) (λ x e. sym (bit-suc b x) ∙ k (suc x) (bit-suc a x ∙ e)))
  where
    low : a % 2 ≢ b % 2 → Dec (a % 2 ≡ 1) → (x : ℕ) × Bit b x × ¬ Bit a x
    low e (yes f) = absurd (e (f ∙ sym (sym (bit-zero b) ∙ k 0 (bit-zero a ∙ f))))
    low e (no f) = (0, bit-zero b ∙ omega arith, λ g. f (sym (bit-zero a) ∙ g))

    go : Dec (a % 2 ≡ b % 2) → (a / 2 ≢ b / 2 → (x : ℕ) × Bit (b / 2) x × ¬ Bit (a / 2) x) → (x : ℕ) × Bit b x × ¬ Bit a x
    go (yes e) r = let s = r (λ f. d (omega arith)) in (suc s.0, bit-suc b s.0 ∙ s.1, λ f. s.2 (sym (bit-suc a s.0) ∙ f))
    go (no e) r = low e (ℕ_discrete (a % 2) 1)

-- two words that are within each other are equal
pub bits_equal : (a b : ℕ) → ((x : ℕ) → Bit a x → Bit b x) → ((x : ℕ) → Bit b x → Bit a x) → a ≡ b
bits_equal a b h k = go (ℕ_discrete a b)
  where
    go : Dec (a ≡ b) → a ≡ b
    go (yes e) = e
    go (no d) = let s = new-bit b a b (le_refl b) h d in absurd (s.2 (k s.0 s.1))

-- a word whose bits are all below k
pub word_lt : (k w : ℕ) → ((x : ℕ) → Bit w x → x < k) → w < 2 ^ k
word_lt k w h = go (dec_lt w (2 ^ k))
  where
    high : (x : ℕ) × Bit (w / 2 ^ k) x → w < 2 ^ k
    high (x, b) = let l = h (k + x) (ap (λ n. n % 2) (sym (shr-shr w k x)) ∙ b) in absurd (omega arith)

    go : Dec (w < 2 ^ k) → w < 2 ^ k
    go (yes l) = l
    go (no n) = high (some-bit (w / 2 ^ k) (w / 2 ^ k) (le_refl _) (λ e. n (omega (arith, (div-lt_iff_lt-mul {k = 2 ^ k} {x = w} {y = 1} (pow_pos k)).0 (omega arith)))))

-- the test
pub has_no : (f : List ℕ) (q x : ℕ) → ¬ Bit (get_or f q 0) x → has f q x ≡ false
unfolding has has_bit
has_no f q x n = ne_eqb _ _ n

pub has-false : (f : List ℕ) (q x : ℕ) → has f q x ≡ false → ¬ Bit (get_or f q 0) x
unfolding has has_bit
has-false f q x e = eqb-false _ _ e

-- where two lists of one length differ
pub same_false : (xs ys : List ℕ) → length xs ≡ length ys → same xs ys ≡ false → (q : ℕ) × (get_or xs q 0 ≢ get_or ys q 0)
unfolding same
same_false [] [] l e = absurd (true≢false e)
same_false [] (y ∷ ys) l e = absurd (omega arith)
same_false (x ∷ xs) [] l e = absurd (omega arith)
same_false (x ∷ xs) (y ∷ ys) l e = go (eqb x y) refl e (same_false xs ys (omega arith))
  where
    go : (t : Bool) → eqb x y ≡ t → (t && same xs ys) ≡ false → (same xs ys ≡ false → (q : ℕ) × (get_or xs q 0 ≢ get_or ys q 0)) → (q : ℕ) × (get_or (x ∷ xs) q 0 ≢ get_or (y ∷ ys) q 0)
    go true e f r = let k = r f in (suc k.0, k.1)
    go false e f r = (0, eqb-false x y e)

-- zeros after the words change none
pub get_d_padded : (f : List ℕ) (k q : ℕ) → get_or (f ++ replicate k 0) q 0 ≡ get_or f q 0
get_d_padded [] zero q = refl
get_d_padded [] (suc k) zero = refl
get_d_padded [] (suc k) (suc q) = get_d_padded [] k q
get_d_padded (x ∷ f) k zero = refl
get_d_padded (x ∷ f) k (suc q) = get_d_padded f k q

-- ---- how many bits are 1

-- the last of the first bits
pub ones_last : (k w : ℕ) → ones_in (suc k) w ≡ ones_in k w + w / 2 ^ k % 2
unfolding ones_in
ones_last zero w = omega (arith, bit-zero w)
ones_last (suc k) w = omega (arith, ones_last k (w / 2), bit-suc w k)

-- all the bits of a word of k bits
pub ones_first : (k w : ℕ) → w < 2 ^ k → ones w ≡ ones_in k w
unfolding ones_in ones
ones_first zero w h = let z : w ≡ 0 = omega arith in rw z
ones_first (suc k) w h = omega (arith, ones_step w, ones_first k (w / 2) (omega (arith, pow-succ' 2 k)))

one_bit : (w k : ℕ) → length (filter (has_bit w) (k ∷ [])) ≡ w / 2 ^ k % 2
unfolding filter has_bit
one_bit w k = go (eqb (w / 2 ^ k % 2) 1) refl
  where
    go : (t : Bool) → eqb (w / 2 ^ k % 2) 1 ≡ t → length {A = ℕ} (elim t [ true ↦ k ∷ [] | false ↦ [] ]) ≡ w / 2 ^ k % 2
    go true e = sym (eqb-true _ _ e)
    go false e = omega (arith, eqb-false (w / 2 ^ k % 2) 1 e)

-- no more than k of the first k
pub ones_le : (k w : ℕ) → ones_in k w ≤ k
unfolding ones_in
ones_le zero w = omega arith
ones_le (suc k) w = omega (arith, ones_le k (w / 2))

pub ones_filter : (k w : ℕ) → ones_in k w ≡ length (filter (has_bit w) (upto k))
unfolding ones_in upto filter
ones_filter zero w = refl
ones_filter (suc k) w =
    let e = ap length (filter-append (has_bit w) (upto k) (k ∷ [])) in
    omega (arith, ones_last k w, ones_filter k w, e, length-append (filter (has_bit w) (upto k)) (filter (has_bit w) (k ∷ [])), one_bit w k)

pub over-append : (k : ℕ) (xs ys : List ℕ) → ones_over k (xs ++ ys) ≡ ones_over k xs + ones_over k ys
unfolding ones_over
over-append k [] ys = omega arith
over-append k (x ∷ xs) ys = omega (arith, over-append k xs ys)

-- words of k bits have no more ones among more bits
zero_ones : (k : ℕ) → ones_in k 0 ≡ 0
unfolding ones_in
zero_ones zero = refl
zero_ones (suc k) = let e : 0 / 2 ≡ 0 = omega arith in omega (arith, ap (ones_in k) e, zero_ones k)

pub over_zeros : (k n : ℕ) → ones_over k (replicate n 0) ≡ 0
unfolding ones_over
over_zeros k zero = refl
over_zeros k (suc n) = omega (arith, zero_ones k, over_zeros k n)

pub over-more : (k n : ℕ) (ws : List ℕ) → k ≤ n → ((q : ℕ) → get_or ws q 0 < 2 ^ k) → ones_over n ws ≡ ones_over k ws
unfolding ones_over
over-more k n [] h l = refl
over-more k n (w ∷ ws) h l =
    let e = ones_first k w (l 0) in
    let f = ones_first n w (lt_of_lt_of_le (l 0) (pow_mono h)) in
    omega (arith, over-more k n ws h (λ q. l (suc q)))

-- over all the words: the cells whose bit is 1
module _ (k : ℕ) (ws : List ℕ) where
  abbrev set_cell : ℕ × ℕ → Bool
  set_cell c = has ws c.0 c.1

  row : (q : ℕ) → ones_over k (get_or ws q 0 ∷ []) ≡ length (filter set_cell (grid (q ∷ []) (upto k)))
  unfolding ones_over grid has
  row q = rw append-nil (omega (arith, ones_filter k (get_or ws q 0), filter_map set_cell (λ x. (q, x)) (upto k)))

  rows : (n : ℕ) → n ≤ length ws → ones_over k (take n ws) ≡ length (filter set_cell (grid (upto n) (upto k)))
  unfolding upto ones_over filter grid
  rows zero h = refl
  rows (suc n) h =
      let e = ap (ones_over k) (take-suc ws n 0 h) ∙ over-append k (take n ws) (get_or ws n 0 ∷ []) in
      let f = ap (λ cs. length (filter set_cell cs)) (concat_map-append (λ q. map (λ x. (q, x)) (upto k)) (upto n) (n ∷ [])) in
      let g = ap length (filter-append set_cell (grid (upto n) (upto k)) (grid (n ∷ []) (upto k))) in
      omega (arith, e, f, g, length-append (filter set_cell (grid (upto n) (upto k))) (filter set_cell (grid (n ∷ []) (upto k))), rows n (omega arith), row n)

  pub over-filter : ones_over k ws ≡ length (filter (λ c. has ws c.0 c.1) (grid (upto (length ws)) (upto k)))
  over-filter = ap (ones_over k) (sym (take-length ws)) ∙ rows (length ws) (le_refl _)
