-- Laws for the segments in which variables stand: the words are added up variable by variable, and have every segment of each. Assumes nothing.
use mathlib.Core.Path.{◌≡◌, refl, sym, ap, ◌∙◌}
use mathlib.Core.Logic.{◌⊎◌, inl, inr}
use mathlib.Core.List.Memᴰ.{cases_cons}
use mathlib.Core.List.Memᴰ.{not-nil}
use mathlib.Core.List.{List, [], ◌∷◌, Memᴰ}
use Prim.Native.Nat.{ℕ, suc, ◌+◌, ◌-◌, ◌*◌, ◌/◌, ◌%◌, ◌≤◌, ◌<◌}
use native.Mathlib.Omega.{arith}
use native.Mathlib.Decide.{ℕ_discrete}
use lib.ListN.{length, get_or, set, length-set}
use lib.Seq.{slice, slice_empty, slice-cons, get_or-set_same, get_or-set_other}
use lib.Bits.{bit_or}
use Rattle.lists.specs.Bits.{Bit}
use Rattle.lists.proofs.Bits.{bit-left, bit-right}
use Rattle.sat_segments.specs.Segments.{InMask, word_over, Gained, Lookup}

-- ---- one word

-- down to the variable at i
pub record Gathering (masks trail : List ℕ) (from to j word i : ℕ) : Type 0 where
  pub low : from ≤ i
  pub high : i ≤ to
  pub so_far : word ≡ word_over masks j (slice i to trail)

pub gathering : {masks trail : List ℕ} {from to : ℕ} (j : ℕ) → Lookup masks trail from to → Gathering masks trail from to j 0 to
unfolding word_over
gathering {masks} {trail} {from} {to} j l = record { low = l.ordered; high = omega arith; so_far = rw (slice_empty to trail) }

module _ {masks trail : List ℕ} {from to j word i : ℕ} (l : Lookup masks trail from to) (g : Gathering masks trail from to j word i) where
  pub variable-inside : from < i → i - 1 < length trail
  variable-inside h = omega (arith, g.high, l.inside)

  pub variable-small : from < i → {x : ℕ} → x ≡ get_or trail (i - 1) 0 → x < 780
  variable-small h e = omega (arith, e, l.below (i - 1) (omega arith) (omega (arith, g.high)))

  pub gather_on : from < i → {x : ℕ} → x ≡ get_or trail (i - 1) 0 → Gathering masks trail from to j (bit_or (get_or masks (x * 16 + j) 0) word) (i - 1)
  unfolding word_over
  gather_on h {x} e = record {
    low = omega arith;
    high = omega (arith, g.high);
    so_far = ap (λ (y : ℕ). bit_or (get_or masks (y * 16 + j) 0) word) e ∙ ap (λ (y : ℕ). bit_or (get_or masks (get_or trail (i - 1) 0 * 16 + j) 0) y) g.so_far ∙ sym (ap (word_over masks j) first);
  }
    where
      next : suc (i - 1) ≡ i
      next = omega arith

      first : slice (i - 1) to trail ≡ get_or trail (i - 1) 0 ∷ slice i to trail
      first = slice-cons (i - 1) to trail 0 (omega (arith, g.high)) l.inside ∙ ap (λ (n : ℕ). get_or trail (i - 1) 0 ∷ slice n to trail) next

  pub gather_all : i ≤ from → word ≡ word_over masks j (slice from to trail)
  gather_all h = let same : i ≡ from = omega (arith, g.low) in g.so_far ∙ ap (λ (n : ℕ). word_over masks j (slice n to trail)) same

-- ---- all words

-- before word j of a set that gains the segments of the variables
pub record Gaining (masks xs before words : List ℕ) (j : ℕ) : Type 0 where
  pub long : length words ≡ 16
  pub done : (i : ℕ) → i < j → get_or words i 0 ≡ bit_or (get_or before i 0) (word_over masks i xs)
  pub rest : (i : ℕ) → j ≤ i → get_or words i 0 ≡ get_or before i 0

pub gaining : (masks xs before : List ℕ) → length before ≡ 16 → Gaining masks xs before before 0
gaining masks xs before e = record { long = e; done = λ i h. absurd (omega (arith, h)); rest = λ i h. refl }

module _ {masks xs before words : List ℕ} {j : ℕ} (f : Gaining masks xs before words j) where
  pub gain_on : j < 16 → {word : ℕ} → word ≡ word_over masks j xs → Gaining masks xs before (set words j (bit_or (get_or words j 0) word)) (j + 1)
  gain_on h {word} e = record {
    long = length-set words j (bit_or (get_or words j 0) word) ∙ f.long;
    done = λ i l. go i l (ℕ_discrete i j);
    rest = λ i l. get_or-set_other words j i (bit_or (get_or words j 0) word) 0 (λ q. absurd (omega (arith, q, l))) ∙ f.rest i (omega arith);
  }
    where
      go : (i : ℕ) → i < j + 1 → Dec (i ≡ j) → get_or (set words j (bit_or (get_or words j 0) word)) i 0 ≡ bit_or (get_or before i 0) (word_over masks i xs)
      go i l (yes q) = rw q (get_or-set_same words j (bit_or (get_or words j 0) word) 0 (omega (arith, f.long)) ∙ ap (λ (x : ℕ). bit_or x word) (f.rest j (omega arith)) ∙ ap (bit_or (get_or before j 0)) e)
      go i l (no n) = get_or-set_other words j i (bit_or (get_or words j 0) word) 0 n ∙ f.done i (omega arith)

  pub gain-all : 16 ≤ j → Gained masks xs before words
  gain-all h = record { long = f.long; each = λ i l. f.done i (omega arith) }

-- ---- a segment of a variable

word-has : (masks : List ℕ) (j b x : ℕ) (xs : List ℕ) → Memᴰ x xs → Bit (get_or masks (x * 16 + j) 0) b → Bit (word_over masks j xs) b
unfolding word_over
word-has masks j b x [] m h = absurd (not-nil m)
word-has masks j b x (y ∷ ys) m h = go (cases_cons m) (λ q. word-has masks j b x ys q h)
  where
    go : (x ≡ y) ⊎ Memᴰ x ys → (Memᴰ x ys → Bit (word_over masks j ys) b) → Bit (bit_or (get_or masks (y * 16 + j) 0) (word_over masks j ys)) b
    go (inl e) r = bit-left (get_or masks (y * 16 + j) 0) (word_over masks j ys) b (rw e at h)
    go (inr q) r = bit-right (get_or masks (y * 16 + j) 0) (word_over masks j ys) b (r q)

-- the set has every segment of each of the variables, and keeps its own
pub gained-has : {masks xs before after : List ℕ} (x k : ℕ) → Gained masks xs before after → k < 1024 → Memᴰ x xs → InMask masks x k → Bit (get_or after (k / 64) 0) (k % 64)
gained-has {masks} {xs} {before} x k g h m b = rw (g.each (k / 64) (omega arith)) (bit-right (get_or before (k / 64) 0) (word_over masks (k / 64) xs) (k % 64) (word-has masks (k / 64) (k % 64) x xs m b))

pub gained-keeps : {masks xs before after : List ℕ} (k : ℕ) → Gained masks xs before after → k < 1024 → Bit (get_or before (k / 64) 0) (k % 64) → Bit (get_or after (k / 64) 0) (k % 64)
gained-keeps {masks} {xs} {before} k g h b = rw (g.each (k / 64) (omega arith)) (bit-left (get_or before (k / 64) 0) (word_over masks (k / 64) xs) (k % 64) b)
