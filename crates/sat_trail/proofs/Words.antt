-- The bits of the words: a pair is marked in two words, or cleared. Assumes nothing.
use mathlib.Core.Path.{◌≡◌, refl, sym, ap, ◌∙◌, subst}
use mathlib.Core.Logic.{◌⊎◌, inl, inr}
use mathlib.Core.List.{List}
use Prim.Native.Nat.{ℕ, zero, suc, ◌/◌, ◌%◌, ◌^◌, ◌<◌, min}
use native.Mathlib.Omega.{arith}
use native.Mathlib.Decide.{ℕ_discrete}
use lib.ListN.{length, get_or, set, length-set}
use lib.Seq.{get_or-set_same, get_or-set_other}
use lib.Bits.{bit_or, bit_xor, differ, and_shr, and_step, xor_shr, xor_step}
use Rattle.lists.specs.Bits.{Bit}
use Rattle.lists.proofs.Bits.{or-bit, bit-left, bit-right, bit-own, bit-pow}
use Rattle.sat_trail.specs.Rows.{without, gain, marked, lose, unmarked}

-- ---- what a word has and another has not

differ_small : (x y : ℕ) → x < 2 → y < 2 → differ x y < 2
differ_small zero y h k = k
differ_small (suc x) zero h k = h
differ_small (suc x) (suc y) h k = let e : x ≡ 0 = omega arith in rw e (omega arith)

xor_digit : (a b x : ℕ) → bit_xor a b / 2 ^ x % 2 ≡ differ (a / 2 ^ x % 2) (b / 2 ^ x % 2)
xor_digit a b x = omega (arith, xor_shr a b x, xor_step (a / 2 ^ x) (b / 2 ^ x), differ_small (a / 2 ^ x % 2) (b / 2 ^ x % 2) (omega arith) (omega arith))

without_digit : (a b x : ℕ) → without a b / 2 ^ x % 2 ≡ min (a / 2 ^ x % 2) (differ (a / 2 ^ x % 2) (b / 2 ^ x % 2))
without_digit a b x = omega (arith, and_shr a (bit_xor a b) x, and_step (a / 2 ^ x) (bit_xor a b / 2 ^ x), xor_digit a b x)

both_digits : (d e : ℕ) → d < 2 → e < 2 → min d (differ d e) ≡ 1 → (d ≡ 1) × (e ≡ 0)
both_digits zero e h k p = absurd (omega arith)
both_digits (suc zero) zero h k p = (refl, refl)
both_digits (suc zero) (suc e) h k p = let z : e ≡ 0 = omega arith in absurd (omega (arith, sym (ap (λ (y : ℕ). min 1 (differ 0 y)) z) ∙ p))
both_digits (suc (suc d)) e h k p = absurd (omega arith)

pub without_of : (a b x : ℕ) → Bit (without a b) x → Bit a x × (Bit b x → ⊥)
without_of a b x h =
    let e = both_digits (a / 2 ^ x % 2) (b / 2 ^ x % 2) (omega arith) (omega arith) (sym (without_digit a b x) ∙ h) in
    (e.0, λ c. absurd (omega (arith, e.1)))

pub of_without : (a b x : ℕ) → Bit a x → (Bit b x → ⊥) → Bit (without a b) x
of_without a b x h n =
    let z : b / 2 ^ x % 2 ≡ 0 = omega arith in
    without_digit a b x ∙ rw (h, z)

-- ---- one of the words is replaced

module _ (f : List ℕ) (p w : ℕ) (h : p < length f) where
  -- s is in the word of r
  abbrev Either : ℕ → ℕ → Type 0
  Either r s = ((r ≡ p) × Bit w s) ⊎ ((r ≡ p → ⊥) × Bit (get_or f r 0) s)

  replaced_of : (r s : ℕ) → Bit (get_or (set f p w) r 0) s → Either r s
  replaced_of r s b = go (ℕ_discrete r p)
    where
      go : Dec (r ≡ p) → Either r s
      go (yes e) = inl (e, subst (λ (y : ℕ). Bit y s) (ap (λ (i : ℕ). get_or (set f p w) i 0) e ∙ get_or-set_same f p w 0 h) b)
      go (no e) = inr (e, subst (λ (y : ℕ). Bit y s) (get_or-set_other f p r w 0 e) b)

  of_replaced : (r s : ℕ) → Either r s → Bit (get_or (set f p w) r 0) s
  of_replaced r s (inl (e, b)) = subst (λ (y : ℕ). Bit y s) (sym (ap (λ (i : ℕ). get_or (set f p w) i 0) e ∙ get_or-set_same f p w 0 h)) b
  of_replaced r s (inr (e, b)) = subst (λ (y : ℕ). Bit y s) (sym (get_or-set_other f p r w 0 e)) b

-- ---- a pair is marked

module _ (f : List ℕ) (p q : ℕ) (h : p < length f) where
  abbrev more : ℕ
  more = bit_or (get_or f p 0) (2 ^ q)

  gain_of : (r s : ℕ) → Bit (get_or (gain f p q) r 0) s → Bit (get_or f r 0) s ⊎ ((r ≡ p) × (s ≡ q))
  unfolding gain
  gain_of r s b = go (replaced_of f p more h r s b)
    where
      pick : r ≡ p → Bit (get_or f p 0) s ⊎ Bit (2 ^ q) s → Bit (get_or f r 0) s ⊎ ((r ≡ p) × (s ≡ q))
      pick e (inl c) = inl (rw e c)
      pick e (inr c) = inr (e, bit-pow q s c)

      go : Either f p more h r s → Bit (get_or f r 0) s ⊎ ((r ≡ p) × (s ≡ q))
      go (inl (e, c)) = pick e (or-bit (get_or f p 0) (2 ^ q) s c)
      go (inr (e, c)) = inl c

  gain-keeps : (r s : ℕ) → Bit (get_or f r 0) s → Bit (get_or (gain f p q) r 0) s
  unfolding gain
  gain-keeps r s b = of_replaced f p more h r s (go (ℕ_discrete r p))
    where
      go : Dec (r ≡ p) → Either f p more h r s
      go (yes e) = inl (e, bit-left (get_or f p 0) (2 ^ q) s (subst (λ (i : ℕ). Bit (get_or f i 0) s) e b))
      go (no e) = inr (e, b)

  gain-own : Bit (get_or (gain f p q) p 0) q
  unfolding gain
  gain-own = of_replaced f p more h p q (inl (refl, bit-right (get_or f p 0) (2 ^ q) q (bit-own q)))

length-gain : (f : List ℕ) (p q : ℕ) → length (gain f p q) ≡ length f
unfolding gain
length-gain f p q = length-set f p _

pub length_marked : (f : List ℕ) (p q : ℕ) → length (marked f p q) ≡ length f
unfolding marked
length_marked f p q = length-gain (gain f p q) q p ∙ length-gain f p q

-- r and s are p and q, in either order
abbrev pub Same : ℕ → ℕ → ℕ → ℕ → Type 0
Same p q r s = ((r ≡ p) × (s ≡ q)) ⊎ ((r ≡ q) × (s ≡ p))

module _ (f : List ℕ) (p q : ℕ) (h : p < length f) (k : q < length f) where
  inner : q < length (gain f p q)
  inner = omega (arith, length-gain f p q)

  pub marked_of : (r s : ℕ) → Bit (get_or (marked f p q) r 0) s → Bit (get_or f r 0) s ⊎ Same p q r s
  unfolding marked
  marked_of r s b = go (gain_of (gain f p q) q p inner r s b)
    where
      first : Bit (get_or f r 0) s ⊎ ((r ≡ p) × (s ≡ q)) → Bit (get_or f r 0) s ⊎ Same p q r s
      first (inl c) = inl c
      first (inr c) = inr (inl c)

      go : Bit (get_or (gain f p q) r 0) s ⊎ ((r ≡ q) × (s ≡ p)) → Bit (get_or f r 0) s ⊎ Same p q r s
      go (inl c) = first (gain_of f p q h r s c)
      go (inr c) = inr (inr c)

  pub marked-keeps : (r s : ℕ) → Bit (get_or f r 0) s → Bit (get_or (marked f p q) r 0) s
  unfolding marked
  marked-keeps r s b = gain-keeps (gain f p q) q p inner r s (gain-keeps f p q h r s b)

  pub marked-own : (r s : ℕ) → Same p q r s → Bit (get_or (marked f p q) r 0) s
  unfolding marked
  marked-own r s (inl e) = rw (e.0, e.1) (gain-keeps (gain f p q) q p inner p q (gain-own f p q h))
  marked-own r s (inr e) = rw (e.0, e.1) (gain-own (gain f p q) q p inner)

-- ---- a pair is cleared

module _ (f : List ℕ) (p q : ℕ) (h : p < length f) where
  abbrev less : ℕ
  less = without (get_or f p 0) (2 ^ q)

  lose_of : (r s : ℕ) → Bit (get_or (lose f p q) r 0) s → Bit (get_or f r 0) s × ((r ≡ p) × (s ≡ q) → ⊥)
  unfolding lose
  lose_of r s b = go (replaced_of f p less h r s b)
    where
      go : Either f p less h r s → Bit (get_or f r 0) s × ((r ≡ p) × (s ≡ q) → ⊥)
      go (inl (e, c)) =
          let w = without_of (get_or f p 0) (2 ^ q) s c in
          (rw e w.0, λ z. w.1 (rw z.1 (bit-own q)))
      go (inr (e, c)) = (c, λ z. e z.0)

  of_lose : (r s : ℕ) → Bit (get_or f r 0) s → ((r ≡ p) × (s ≡ q) → ⊥) → Bit (get_or (lose f p q) r 0) s
  unfolding lose
  of_lose r s b n = of_replaced f p less h r s (go (ℕ_discrete r p))
    where
      go : Dec (r ≡ p) → Either f p less h r s
      go (yes e) = inl (e, of_without (get_or f p 0) (2 ^ q) s (subst (λ (i : ℕ). Bit (get_or f i 0) s) e b) (λ z. n (e, bit-pow q s z)))
      go (no e) = inr (e, b)

length-lose : (f : List ℕ) (p q : ℕ) → length (lose f p q) ≡ length f
unfolding lose
length-lose f p q = length-set f p _

pub length-unmarked : (f : List ℕ) (p q : ℕ) → length (unmarked f p q) ≡ length f
unfolding unmarked
length-unmarked f p q = length-lose (lose f p q) q p ∙ length-lose f p q

module _ (f : List ℕ) (p q : ℕ) (h : p < length f) (k : q < length f) where
  inside : q < length (lose f p q)
  inside = omega (arith, length-lose f p q)

  pub unmarked_of : (r s : ℕ) → Bit (get_or (unmarked f p q) r 0) s → Bit (get_or f r 0) s × (Same p q r s → ⊥)
  unfolding unmarked
  unmarked_of r s b =
      let two = lose_of (lose f p q) q p inside r s b in
      let one = lose_of f p q h r s two.0 in
      (one.0, λ e. go one.1 two.1 e)
    where
      go : ((r ≡ p) × (s ≡ q) → ⊥) → ((r ≡ q) × (s ≡ p) → ⊥) → Same p q r s → ⊥
      go x y (inl e) = x e
      go x y (inr e) = y e

  pub of_unmarked : (r s : ℕ) → Bit (get_or f r 0) s → (Same p q r s → ⊥) → Bit (get_or (unmarked f p q) r 0) s
  unfolding unmarked
  of_unmarked r s b n = of_lose (lose f p q) q p inside r s (of_lose f p q h r s b (λ e. n (inl e))) (λ e. n (inr e))
