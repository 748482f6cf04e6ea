-- The conditions of the check, record by record and state by state: a law for each way through a loop's turn. Assumes nothing.
use mathlib.Core.Path.{◌≡◌, refl, sym, ap, ◌∙◌, subst}
use mathlib.Core.Bool.{Bool, true, false, ◌&&◌, ◌||◌, not, true≢false}
use mathlib.Core.List.{List, [], ◌∷◌}
use Prim.Native.Nat.{ℕ, ◌^◌, ◌<◌, ◌≤◌}
use native.Mathlib.Nat.{div-eq_of_lt, lt_of_lt_of_le}
use native.Mathlib.Omega.{arith}
use native.Mathlib.Decide.{dec_lt}
use lib.ListN.{length, get_or, get_or-eq_default}
use lib.Pow.{pow_mono}
use lib.Dec.{eqb}
use borrow.Author.Tests.{eq-eqb, ne_eqb, lt-ltb, le-ltb}
use Rattle.lists.specs.Lists.{any, upto}
use Rattle.lists.specs.Bits.{Bit, has}
use Rattle.lists.proofs.Bits.{no_bit}
use Rattle.lists.proofs.Words.{has_no}
use Rattle.lists.proofs.Members.{and-true, gives_of, all_of}
use Rattle.table_spec.specs.File.{records}
use Rattle.table_spec.specs.Language.{targets}
use Rattle.table_spec.specs.Maps.{class_of, joins}
use Rattle.tops_spec.specs.Tops.{live}
use Rattle.check_spec.specs.Check.{move_matched, return_matched}
use Rattle.check_matching.specs.Matching.{kept, return_met, record_matched, record_met, Lent}

-- two tests that give each other are one
pub same_test : (a b : Bool) → (a ≡ true → b ≡ true) → (b ≡ true → a ≡ true) → a ≡ b
same_test true b f g = sym (f refl)
same_test false true f g = g refl
same_test false false f g = refl

-- ---- no word past the end, no bit past 63

pub past_words : (f : List ℕ) (q x : ℕ) → length f ≤ q → false ≡ has f q x
past_words f q x h = sym (has_no f q x (λ b. no_bit x (subst (λ (w : ℕ). Bit w x) (get_or-eq_default f 0 h) b)))

pub past-bits : (f : List ℕ) (q x : ℕ) → get_or f q 0 < 2 ^ 64 → 63 < x → false ≡ has f q x
past-bits f q x h l = sym (has_no f q x (λ b. omega (arith, b, div-eq_of_lt (lt_of_lt_of_le h (pow_mono l)))))

-- ---- which records are kept

pub move_kept : (f r : List ℕ) → length r < 4 → true ≡ kept f r
unfolding kept
move_kept f r h = sym (rw (lt-ltb _ _ h, kept))

pub return_kept : (f r : List ℕ) {p q : ℕ} → 4 ≤ length r → p ≡ get_or r 0 0 → q ≡ get_or r 2 0 → has f p q ≡ kept f r
unfolding kept live
return_kept f r h d e = (λ i. has f (d i) (e i)) ∙ sym (rw (le-ltb _ _ h, kept))

-- ---- a test that only counts where another holds

pub spared : {a : Bool} (b : Bool) → a ≡ false → (not a || b) ≡ true
spared b p = rw p

pub met : {a b : Bool} → a ≡ true → b ≡ true → (not a || b) ≡ true
met p q = rw (p, q)

pub broken : {a b : Bool} → a ≡ true → b ≡ false → (not a || b) ≡ false
broken p q = rw (p, q)

-- ---- a record and a state

-- the members of a state's class are joined to it
pub by_class : (m : List ℕ) (p q : ℕ) {class : ℕ} {b v : Bool} → class ≡ class_of m p → b ≡ eqb class (class_of m q) → b ≡ v → joins m p q ≡ v
unfolding joins
by_class m p q e g k = ap (λ z. eqb z (class_of m q)) (sym e) ∙ sym g ∙ k

module _ (f : List ℕ) (rs : List (List ℕ)) (m : List ℕ) (p a s p' q u : ℕ) where
  return-apart : joins m p q ≡ false → return_matched f rs m p a s p' q u ≡ true
  unfolding return_matched
  return-apart j = rw j

  return-dead : has f p s ≡ false → return_matched f rs m p a s p' q u ≡ true
  unfolding return_matched
  return-dead h = gives_of (joins m p q && joins m s u && has f p s && has f q u) _ (λ t. absurd (true≢false (sym (lives t) ∙ h)))
    where
      lives : (joins m p q && joins m s u && has f p s && has f q u) ≡ true → has f p s ≡ true
      lives t = (and-true (joins m p q && joins m s u) (has f p s) (and-true _ (has f q u) t).0).1

  module _ (h : has f p s ≡ true) (j : joins m p q ≡ true) where
    pub stack-apart : joins m s u ≡ false → true ≡ return_matched f rs m p a s p' q u
    unfolding return_matched
    stack-apart k = rw (j, k)

    module _ (k : joins m s u ≡ true) where
      pub not-under : has f q u ≡ false → true ≡ return_matched f rs m p a s p' q u
      unfolding return_matched
      not-under t = rw (j, k, h, t)

      pub return_by : {z : ℕ} → has f q u ≡ true → z ≡ p' → any (joins m z) (targets rs (q ∷ a ∷ u ∷ [])) ≡ return_matched f rs m p a s p' q u
      unfolding return_matched
      return_by t g = ap (λ z. any (joins m z) (targets rs (q ∷ a ∷ u ∷ []))) g ∙ rw (j, k, h, t)

-- ---- a record of w bytes

module _ (f : List ℕ) (rs : List (List ℕ)) (n : ℕ) (m r : List ℕ) where
  pub record_apart : (w q : ℕ) → joins m (get_or r 0 0) q ≡ false → record_matched w f rs n m r q ≡ true
  unfolding record_matched move_matched
  record_apart w q j = go (eqb w 3)
    where
      go : (t : Bool) → (elim t as (λ _. Bool) [ true ↦ move_matched rs m (get_or r 0 0) (get_or r 1 0) (get_or r 2 0) q | false ↦ return_met f rs n m r q ]) ≡ true
      go true = spared _ j
      go false = all_of _ (upto n) (λ u k. return-apart f rs m _ _ _ _ q u j)

  pub record_move : (w q : ℕ) {y : ℕ} → w ≡ 3 → joins m (get_or r 0 0) q ≡ true → y ≡ get_or r 2 0 → any (joins m y) (targets rs (q ∷ get_or r 1 0 ∷ [])) ≡ record_matched w f rs n m r q
  unfolding record_matched move_matched
  record_move w q e j g = ap (λ z. any (joins m z) (targets rs (q ∷ get_or r 1 0 ∷ []))) g ∙ sym (rw (eq-eqb w 3 e, record_matched, j))

  return_of_lem : (w q : ℕ) → (w ≡ 3 → ⊥) → return_met f rs n m r q ≡ record_matched w f rs n m r q
  unfolding record_matched
  return_of_lem w q x = sym (rw (ne_eqb w 3 x, record_matched))

  -- a dead return, whose width is not that of a move
  pub record_dead : {w : ℕ} → length r ≡ w → kept f r ≡ false → true ≡ record_met w f rs n m r
  record_dead {w} e h = go (dec_lt (length r) 4)
    where
      dead : 4 ≤ length r → (q : ℕ) → return_met f rs n m r q ≡ true
      dead l q = all_of _ (upto n) (λ u k. return-dead f rs m _ _ _ _ q u (return_kept f r l refl refl ∙ h))

      go : Dec (length r < 4) → true ≡ record_met w f rs n m r
      go (yes l) = absurd (true≢false (move_kept f r l ∙ h))
      go (no l) = sym (all_of _ (upto n) (λ q k. sym (return_of_lem w q (λ z. omega arith)) ∙ dead (omega arith) q))

-- a record that is no move is a return
module _ {w n : ℕ} {section : List ℕ} (l : Lent w section n) (x : w ≡ 3 → ⊥) where
  four : w ≡ 4
  four = omega (arith, l.moves, l.returns)

  pub return-lent : Lent 4 section n
  return-lent = subst (λ (v : ℕ). Lent v section n) four l

  module _ (r : List ℕ) (e : length r ≡ w) where
    pub return-long : length r ≡ 4
    return-long = e ∙ four

    pub return-live : (f : List ℕ) → kept f r ≡ true → has f (get_or r 0 0) (get_or r 2 0) ≡ true
    return-live f h = return_kept f r (omega (arith, return-long)) refl refl ∙ h

  pub record_return : (f m r : List ℕ) (q : ℕ) → return_met f (records 4 section) n m r q ≡ record_matched w f (records w section) n m r q
  record_return f m r q = ap (λ (v : ℕ). return_met f (records v section) n m r q) (sym four) ∙ return_of_lem f (records w section) n m r w q x
