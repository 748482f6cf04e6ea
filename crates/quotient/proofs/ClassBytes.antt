-- The state bytes of the quotient's classes, member by member and class by class. Assumes nothing.
use mathlib.Core.Path.{◌≡◌, refl, sym, ap, ◌∙◌}
use mathlib.Core.Bool.{Bool, true, false, ◌&&◌}
use mathlib.Core.List.{List}
use Prim.Native.Nat.{ℕ, ◌+◌, ◌*◌, ◌/◌, ◌%◌, ◌<◌, ◌≤◌}
use native.Mathlib.Nat.{div-one}
use native.Mathlib.Omega.{arith}
use lib.ListN.{length, get_or, drop, length-map}
use lib.Dec.{eqb}
use borrow.Author.Tests.{eq-eqb, ne_eqb}
use Rattle.std.specs.Int.{from_bool}
use Rattle.lists.specs.Lists.{any, upto}
use Rattle.lists.proofs.Members.{get_d_map, length-upto, get_d_upto}
use Rattle.lists.proofs.Upto.{Counting, counting, upto_on, upto_end, any-passed, any_found, any-done}
use Rattle.table_spec.specs.File.{Table, of_states}
use Rattle.table_spec.specs.Reading.{is_initial, is_accepting}
use Rattle.table_spec.specs.Language.{mark_of}
use Rattle.table_spec.specs.Maps.{class_of}
use Rattle.table_spec.proofs.Bytes.{Bytes}
use Rattle.quotient_spec.specs.Quotient.{member_has, bit_of, mark_among, class_mark, class_byte}
use Rattle.quotient_spec.proofs.States.{mark-here, mark_on, mark-most}
use Rattle.quotient.specs.Classes.{flagged, class_bytes}

-- ---- members

-- no member before q has the flag
pub record Seeing (flag : ℕ) (states m : List ℕ) (c q : ℕ) : Type 0 where
  pub rest : Counting (any (λ p. eqb (class_of m p) c && flagged flag (get_or states p 0))) (length states) q

pub seeing : (flag : ℕ) (states m : List ℕ) (c : ℕ) → Seeing flag states m c 0
seeing flag states m c = record { rest = counting _ (length states) }

module _ {flag : ℕ} {states m : List ℕ} {c q p : ℕ} (w : Seeing flag states m c q) (h : q < length states) (d : p ≡ class_of m q) where
  pub member_other : (p ≡ c → ⊥) → Seeing flag states m c (q + 1)
  member_other n = record { rest = any-passed _ w.rest h (rw (ne_eqb (class_of m q) c (λ e. n (d ∙ e)))) }

  pub member_plain : p ≡ c → (get_or states q 0 / flag % 2 ≡ 1 → ⊥) → Seeing flag states m c (q + 1)
  unfolding flagged
  member_plain e n = record { rest = any-passed _ w.rest h (rw (eq-eqb (class_of m q) c (sym d ∙ e), ne_eqb (get_or states q 0 / flag % 2) 1 n)) }

  pub member_found : p ≡ c → get_or states q 0 / flag % 2 ≡ 1 → true ≡ member_has (flagged flag) (of_states states) m c
  unfolding flagged member_has
  member_found e f = any_found _ w.rest h (rw (eq-eqb (class_of m q) c (sym d ∙ e), eq-eqb (get_or states q 0 / flag % 2) 1 f))

pub member_none : {flag : ℕ} {states m : List ℕ} {c q : ℕ} → Seeing flag states m c q → length states ≤ q → false ≡ member_has (flagged flag) (of_states states) m c
unfolding member_has
member_none w h = any-done _ w.rest h

-- ---- the members' mark

-- no state before q is a member
pub record Marking (states m : List ℕ) (c q : ℕ) : Type 0 where
  pub inside : q ≤ length states
  pub meets : class_mark (of_states states) m c ≡ mark_among states m c (drop q (upto (length states)))

pub marking : (states m : List ℕ) (c : ℕ) → Marking states m c 0
unfolding class_mark
marking states m c = record { inside = omega arith; meets = refl }

module _ {states m : List ℕ} {c q : ℕ} (w : Marking states m c q) where
  pub mark-passed : {p : ℕ} → q < length states → p ≡ class_of m q → (p ≡ c → ⊥) → Marking states m c (q + 1)
  mark-passed h d n = record { inside = omega arith; meets = w.meets ∙ ap (mark_among states m c) (upto_on (length states) q h) ∙ mark_on (of_states states) m c q _ (ne_eqb (class_of m q) c (λ e. n (d ∙ e))) }

  pub mark-found : {p : ℕ} → q < length states → p ≡ class_of m q → p ≡ c → get_or states q 0 / 4 ≡ class_mark (of_states states) m c
  unfolding mark_of
  mark-found h d e = sym (w.meets ∙ ap (mark_among states m c) (upto_on (length states) q h) ∙ mark-here (of_states states) m c q _ (eq-eqb (class_of m q) c (sym d ∙ e)))

  pub mark-none : length states ≤ q → 0 ≡ class_mark (of_states states) m c
  unfolding mark_among
  mark-none h = sym (w.meets ∙ ap (mark_among states m c) (upto_end (length states) q h))

-- it is a quarter of a byte
pub mark-small : (states m : List ℕ) (c : ℕ) → Bytes states → class_mark (of_states states) m c ≤ 63
unfolding mark_of
mark-small states m c h = mark-most (of_states states) m c 63 (λ q. omega (arith, h q))

-- ---- one class

module _ (t : Table) (m : List ℕ) (c : ℕ) where
  initially : member_has (flagged 1) t m c ≡ member_has is_initial t m c
  unfolding flagged is_initial
  initially = λ i. member_has (λ b. eqb (div-one b i % 2) 1) t m c

  finally : member_has (flagged 2) t m c ≡ member_has is_accepting t m c
  unfolding flagged is_accepting
  finally = refl

  pub byte_made :
      {x y : Bool} {i a : ℕ} → x ≡ member_has (flagged 1) t m c → i ≡ bit_of x → y ≡ member_has (flagged 2) t m c → a ≡ bit_of y → {k : ℕ} → k ≡ class_mark t m c
      → i + 2 * a + 4 * k ≡ class_byte t m c
  unfolding class_byte
  byte_made d e f g h = λ j. (e ∙ ap bit_of (d ∙ initially)) j + 2 * (g ∙ ap bit_of (f ∙ finally)) j + 4 * h j

-- a bool as a number
pub as_bit : (b : Bool) → from_bool b ≡ bit_of b
unfolding bit_of
as_bit true = refl
as_bit false = refl

-- ---- all of them

module _ (t : Table) (m : List ℕ) (n : ℕ) where
  pub length-bytes : length (class_bytes t m n) ≡ n
  length-bytes = length-map (upto n) (class_byte t m) ∙ length-upto n

  pub byte_of-class : (c : ℕ) → c < n → class_byte t m c ≡ get_or (class_bytes t m n) c 0
  byte_of-class c h = sym (get_d_map (class_byte t m) (upto n) c 0 0 (omega (arith, length-upto n)) ∙ ap (class_byte t m) (get_d_upto n c 0 h))
