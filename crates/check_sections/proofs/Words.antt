-- Words as sets: what one has in common with another, a word that covers another, the words of joined states. Assumes nothing.
use mathlib.Core.Path.{◌≡◌, refl, sym, ap, ◌∙◌, subst}
use mathlib.Core.Logic.{◌⊎◌, inl, inr}
use mathlib.Core.Bool.{Bool, true}
use mathlib.Core.List.{List}
use Prim.Native.Nat.{ℕ, ◌+◌, ◌/◌, ◌%◌, ◌^◌, ◌≤◌, ◌<◌, min}
use native.Mathlib.Omega.{arith}
use native.Mathlib.Decide.{ℕ_discrete}
use lib.ListN.{length, get_or, set, replicate, length-set, length-replicate}
use lib.Seq.{get_or-set_same, get_or-set_other}
use lib.Bits.{bit_and, bit_or, and_shr, and_step}
use lib.Count.{count_trailing_zeros}
use lib.Dec.{eqb}
use borrow.Author.Tests.{eqb-true, eq-eqb}
use Rattle.lists.specs.Lists.{all, upto}
use Rattle.lists.specs.Bits.{Bit, has_bit}
use Rattle.lists.proofs.Bits.{or-bit, bit-left, bit-right, no_bit, bit-own, bit-pow}
use Rattle.lists.proofs.Words.{bits_equal, word_lt}
use Rattle.lists.proofs.Lowest.{trailing_lowest}
use Rattle.lists.proofs.Members.{all_true, all_of, upto-mem, upto_of, zeros}
use Rattle.limits.specs.Limits.{state_most}
use Rattle.table_spec.specs.Maps.{class_of}
use Rattle.check_matching.proofs.Matched.{same_test}
use Rattle.check_sections.specs.Rooms.{Members, Classed, Joined, least_of}

bit-and : (a b x : ℕ) → bit_and a b / 2 ^ x % 2 ≡ min (a / 2 ^ x % 2) (b / 2 ^ x % 2)
bit-and a b x = omega (arith, and_shr a b x, and_step (a / 2 ^ x) (b / 2 ^ x))

pub and-bit : (a b x : ℕ) → Bit (bit_and a b) x → Bit a x × Bit b x
and-bit a b x h = (omega (arith, bit-and a b x), omega (arith, bit-and a b x))

pub bit-both : (a b x : ℕ) → Bit a x → Bit b x → Bit (bit_and a b) x
bit-both a b x h k = omega (arith, bit-and a b x)

-- a word covers another where every number below n passes: one that is asked for passes where the word has it, and any other passes
module _ (word part n : ℕ) (g : ℕ → Bool) (asked : (x : ℕ) → Bit part x → (x < n) × (g x ≡ has_bit word x)) (free : (x : ℕ) → x < n → (Bit part x → ⊥) → g x ≡ true) where
  pub covered : eqb (bit_or word part) word ≡ all g (upto n)
  unfolding has_bit
  covered = same_test _ _ (λ e. all_of g (upto n) (λ x d. pass x (upto-mem n x d) (eqb-true _ _ e) (ℕ_discrete (part / 2 ^ x % 2) 1))) (λ e. eq-eqb _ _ (bits_equal _ _ (λ x b. back x e (or-bit word part x b)) (λ x b. bit-left word part x b)))
    where
      pass : (x : ℕ) → x < n → bit_or word part ≡ word → Dec (Bit part x) → g x ≡ true
      pass x l e (yes b) = (asked x b).1 ∙ eq-eqb _ _ (subst (λ (w : ℕ). Bit w x) e (bit-right word part x b))
      pass x l e (no b) = free x l b

      back : (x : ℕ) → all g (upto n) ≡ true → Bit word x ⊎ Bit part x → Bit word x
      back x e (inl b) = b
      back x e (inr b) = eqb-true _ _ (sym (asked x b).1 ∙ all_true g (upto n) e x (upto_of n x (asked x b).0))

-- ---- the states of a class before q

pub record Gathered (m : List ℕ) (c w q : ℕ) : Type 0 where
  pub inside : q ≤ length m
  pub only : (x : ℕ) → Bit w x → (x < q) × (c ≡ class_of m x)
  pub every : (x : ℕ) → x < q → c ≡ class_of m x → Bit w x

module _ {m : List ℕ} {c w q : ℕ} (g : Gathered m c w q) where
  gathered : length m ≤ q → Members m c w
  gathered l = record { only = λ x b. (omega (arith, (g.only x b).0, g.inside), (g.only x b).1); every = λ x h e. g.every x (omega arith) e }

  module _ (l : q < length m) where
    filter-live-not : (c ≡ class_of m q → ⊥) → Gathered m c w (q + 1)
    filter-live-not n = record { inside = omega arith; only = λ x b. (omega (arith, (g.only x b).0), (g.only x b).1); every = λ x h e. g.every x (below x h e) e }
      where
        below : (x : ℕ) → x < q + 1 → c ≡ class_of m x → x < q
        below x h e = go (ℕ_discrete x q)
          where
            go : Dec (x ≡ q) → x < q
            go (yes d) = absurd (n (subst (λ (y : ℕ). c ≡ class_of m y) d e))
            go (no d) = omega arith

    filter-live-one : c ≡ class_of m q → Gathered m c (bit_or w (2 ^ q)) (q + 1)
    filter-live-one e = record { inside = omega arith; only = λ x b. one x (or-bit w (2 ^ q) x b); every = λ x h d. there x h d (ℕ_discrete x q) }
      where
        one : (x : ℕ) → Bit w x ⊎ Bit (2 ^ q) x → (x < q + 1) × (c ≡ class_of m x)
        one x (inl b) = (omega (arith, (g.only x b).0), (g.only x b).1)
        one x (inr b) = (omega (arith, bit-pow q x b), subst (λ (y : ℕ). c ≡ class_of m y) (sym (bit-pow q x b)) e)

        there : (x : ℕ) → x < q + 1 → c ≡ class_of m x → Dec (x ≡ q) → Bit (bit_or w (2 ^ q)) x
        there x h d (yes k) = bit-right w (2 ^ q) x (subst (λ (y : ℕ). Bit (2 ^ q) y) (sym k) (bit-own q))
        there x h d (no k) = bit-left w (2 ^ q) x (g.every x (omega arith) d)

-- ---- the words of all classes

pub record Classing (m words : List ℕ) (q : ℕ) : Type 0 where
  pub long : length words ≡ 256
  pub classes : (c : ℕ) → c < 256 → Gathered m c (get_or words c 0) q

pub classing : (m : List ℕ) → Classing m (replicate 256 0) 0
classing m = record { long = length-replicate {A = ℕ} 256 0; classes = λ c l. subst (λ (w : ℕ). Gathered m c w 0) (sym (zeros 256 c)) (record { inside = omega arith; only = λ x b. absurd (no_bit x b); every = λ x k e. absurd (omega arith) }) }

module _ {m words : List ℕ} {q : ℕ} (g : Classing m words q) where
  pub class_on : {c y : ℕ} → q < length m → c ≡ class_of m q → c < 256 → y ≡ 2 ^ q → Classing m (set words c (bit_or (get_or words c 0) y)) (q + 1)
  class_on {c} {y} l e k z = record { long = length-set words c (bit_or (get_or words c 0) y) ∙ g.long; classes = λ d h. go d h (ℕ_discrete d c) }
    where
      go : (d : ℕ) → d < 256 → Dec (d ≡ c) → Gathered m d (get_or (set words c (bit_or (get_or words c 0) y)) d 0) (q + 1)
      go d h (yes s) =
          subst (λ (v : ℕ). Gathered m v (get_or (set words c (bit_or (get_or words c 0) y)) v 0) (q + 1)) (sym s)
          (subst (λ (w : ℕ). Gathered m c w (q + 1)) (sym (get_or-set_same words c (bit_or (get_or words c 0) y) 0 (omega (arith, g.long)) ∙ ap (bit_or (get_or words c 0)) z)) (filter-live-one (g.classes c k) l e))
      go d h (no s) = subst (λ (w : ℕ). Gathered m d w (q + 1)) (sym (get_or-set_other words c d (bit_or (get_or words c 0) y) 0 s)) (filter-live-not (g.classes d h) l (λ t. s (t ∙ sym e)))

  pub all_classed : length m ≤ q → Classed m words
  all_classed l = record { classes = λ c h. gathered (g.classes c h) l }

-- the word of a state's class
pub class-word : {m words : List ℕ} {c : ℕ} (q : ℕ) → Classed m words → c ≡ class_of m q → c < 256 → Members m (class_of m q) (get_or words c 0)
class-word {m} {words} {c} q g e l = subst (λ (v : ℕ). Members m v (get_or words c 0)) e (g.classes c l)

-- ---- the words of the states before q

pub record Joining (m ws : List ℕ) (q : ℕ) : Type 0 where
  pub long : length ws ≡ 40
  pub words : (p : ℕ) → p < q → Members m (class_of m p) (get_or ws p 0)

pub joining : (m : List ℕ) → Joining m (replicate 40 0) 0
joining m = record { long = length-replicate {A = ℕ} 40 0; words = λ p l. absurd (omega arith) }

module _ {m ws : List ℕ} {q : ℕ} (g : Joining m ws q) where
  pub join_on : {w : ℕ} → q < 40 → Members m (class_of m q) w → Joining m (set ws q w) (q + 1)
  join_on {w} l h = record { long = length-set ws q w ∙ g.long; words = λ p k. go p k (ℕ_discrete p q) }
    where
      go : (p : ℕ) → p < q + 1 → Dec (p ≡ q) → Members m (class_of m p) (get_or (set ws q w) p 0)
      go p k (yes e) = subst (λ (y : ℕ). Members m (class_of m y) (get_or (set ws q w) y 0)) (sym e) (subst (Members m (class_of m q)) (sym (get_or-set_same ws q w 0 (omega (arith, g.long)))) h)
      go p k (no e) = subst (Members m (class_of m p)) (sym (get_or-set_other ws q p w 0 e)) (g.words p (omega arith))

  pub all-joined : length m ≤ q → Joined m ws
  all-joined l = record { words = λ p k. g.words p (omega arith) }

-- ---- the least state of a class

module _ {m ws : List ℕ} (few : length m ≤ state_most) (j : Joined m ws) where
  module _ (y : ℕ) (l : y < length m) where
    own : Bit (get_or ws y 0) y
    own = (j.words y l).every y l refl

    least : (least_of ws y < 64) × Bit (get_or ws y 0) (least_of ws y)
    least =
        let h = trailing_lowest 64 (get_or ws y 0) (word_lt 64 (get_or ws y 0) (λ x b. omega (arith, ((j.words y l).only x b).0))) (λ z. no_bit y (subst (λ (w : ℕ). Bit w y) z own)) in
        (h.0, h.1.own)

    pub least-few : least_of ws y < state_most
    least-few = omega (arith, ((j.words y l).only (least_of ws y) least.1).0)

    least-joined : class_of m y ≡ class_of m (least_of ws y)
    least-joined = ((j.words y l).only (least_of ws y) least.1).1

  -- joined states have one least state, and only they have
  pub least-same : (y z : ℕ) → y < length m → z < length m → class_of m y ≡ class_of m z → least_of ws y ≡ least_of ws z
  least-same y z l k e =
      let a = j.words y l in
      let b = j.words z k in
      ap (count_trailing_zeros 64) (bits_equal _ _ (λ x h. b.every x (a.only x h).0 (sym e ∙ (a.only x h).1)) (λ x h. a.every x (b.only x h).0 (e ∙ (b.only x h).1)))

  pub same-least : (y z : ℕ) → y < length m → z < length m → least_of ws y ≡ least_of ws z → class_of m y ≡ class_of m z
  same-least y z l k e = least-joined y l ∙ ap (class_of m) e ∙ sym (least-joined z k)
