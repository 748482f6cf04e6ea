-- What the check answers over the parts of a table, one law for each way to a return of src/. Assumes nothing.
use mathlib.Core.Path.{◌≡◌, sym, ap, ◌∙◌, subst}
use mathlib.Core.Bool.{Bool, true, false}
use mathlib.Core.List.{List, [], ◌∷◌}
use Prim.Native.Nat.{ℕ}
use native.Mathlib.Omega.{arith}
use lib.ListN.{length}
use lib.Dec.{eqb}
use borrow.Author.Tests.{eq-eqb, ne_eqb}
use Rattle.std.specs.Borrow.{Bor}
use Rattle.std.specs.Prelude.{Ok, Err}
use Rattle.lists.specs.Lists.{first_failed}
use Rattle.lists.proofs.Refusals.{passes, fails, no_test, stage_fails}
use Rattle.limits.specs.declared.Limits.{Limits}
use Rattle.refusals.specs.declared.Refusal.{Refusal}
use Rattle.refusals.specs.declared.Refusal.TheVariants.{MapLength, Numbering, Disagreement, InternalUnmatched, CallUnmatched, ReturnUnmatched}
use Rattle.refusals.specs.Refusals.{number_of, tested}
use Rattle.refusals.proofs.Numbers.{some_number, refused_by, ok_by}
use Rattle.limits.specs.Limits.{widest}
use Rattle.table_spec.specs.File.{records, table_of, of_states}
use Rattle.table_spec.specs.Reading.{read_number}
use Rattle.table_spec.specs.Maps.{numbered}
use Rattle.table_spec.specs.declared.Starts.{Starts}
use Rattle.table_view.specs.Sections.{part_of}
use Rattle.table_view.specs.declared.Section.TheVariants.{States, Internals, Calls, Returns}
use Rattle.table_view.proofs.Parts.{states-read, internals-read, calls-read, returns-read}
use Rattle.tops.specs.declared.Examined.{Examined}
use Rattle.check_spec.specs.Check.{labels_agree, moves_matched, returns_matched, map_tests, check_number}
use Rattle.table_index.proofs.Parts.{parts-lent}
use Rattle.check_map.specs.Known.{Known, Parted, part_tests}
use Rattle.check_matching.specs.Matching.{record_matched, records_matched, Lent}

-- ---- 15 to 20, over the parts of a table

module _ (s i c r f m : List ℕ) where
  pub number_15 : (length m ≡ length s → ⊥) → Err MapLength ≡ tested (first_failed (part_tests s i c r f m))
  unfolding part_tests
  number_15 h = refused_by tt (fails 15 _ (ne_eqb _ _ h))

  module _ (p15 : length m ≡ length s) where
    pub number_16 : numbered m ≡ false → Err Numbering ≡ tested (first_failed (part_tests s i c r f m))
    unfolding part_tests
    number_16 h = refused_by tt (passes 15 _ (eq-eqb _ _ p15) ∙ fails 16 _ h)

    -- the map's states are the table's
    told : (w : ℕ) (rs : List (List ℕ)) {t : Bool} → records_matched w f rs (length m) m ≡ t → records_matched w f rs (length s) m ≡ t
    told w rs h = ap (λ (k : ℕ). records_matched w f rs k m) (sym p15) ∙ h

    module _ (p16 : numbered m ≡ true) where
      pub number_17 : labels_agree (of_states s) m ≡ false → Err Disagreement ≡ tested (first_failed (part_tests s i c r f m))
      unfolding part_tests
      number_17 h = refused_by tt (passes 15 _ (eq-eqb _ _ p15) ∙ passes 16 _ p16 ∙ fails 17 _ h)

      module _ (p17 : labels_agree (of_states s) m ≡ true) where
        pub number_18 : records_matched 3 f (records 3 i) (length m) m ≡ false → Err InternalUnmatched ≡ tested (first_failed (part_tests s i c r f m))
        unfolding part_tests
        number_18 h = refused_by tt (passes 15 _ (eq-eqb _ _ p15) ∙ passes 16 _ p16 ∙ passes 17 _ p17 ∙ fails 18 _ (told 3 (records 3 i) h))

        module _ (p18 : records_matched 3 f (records 3 i) (length m) m ≡ true) where
          pub number_19 : records_matched 3 f (records 3 c) (length m) m ≡ false → Err CallUnmatched ≡ tested (first_failed (part_tests s i c r f m))
          unfolding part_tests
          number_19 h = refused_by tt (passes 15 _ (eq-eqb _ _ p15) ∙ passes 16 _ p16 ∙ passes 17 _ p17 ∙ passes 18 _ (told 3 (records 3 i) p18) ∙ fails 19 _ (told 3 (records 3 c) h))

          module _ (p19 : records_matched 3 f (records 3 c) (length m) m ≡ true) where
            pub number_20 : records_matched 4 f (records 4 r) (length m) m ≡ false → Err ReturnUnmatched ≡ tested (first_failed (part_tests s i c r f m))
            unfolding part_tests
            number_20 h = refused_by tt (passes 15 _ (eq-eqb _ _ p15) ∙ passes 16 _ p16 ∙ passes 17 _ p17 ∙ passes 18 _ (told 3 (records 3 i) p18) ∙ passes 19 _ (told 3 (records 3 c) p19) ∙ fails 20 _ (told 4 (records 4 r) h))

            pub number_0 : records_matched 4 f (records 4 r) (length m) m ≡ true → Ok tt ≡ tested (first_failed (part_tests s i c r f m))
            unfolding part_tests
            number_0 h = ok_by tt (passes 15 _ (eq-eqb _ _ p15) ∙ passes 16 _ p16 ∙ passes 17 _ p17 ∙ passes 18 _ (told 3 (records 3 i) p18) ∙ passes 19 _ (told 3 (records 3 c) p19) ∙ passes 20 _ (told 4 (records 4 r) h) ∙ no_test)

pub lent-states : {w : ℕ} {section : List ℕ} {n k : ℕ} → k ≡ n → Lent w section n → Lent w section k
lent-states {w} {section} e l = subst (λ (n : ℕ). Lent w section n) (sym e) l

-- ---- the parts of a read table

module _ {b f : List ℕ} {s : Starts} (k : Known b s f) {states internals calls returns : List ℕ}
    (e1 : states ≡ part_of b s States) (e2 : internals ≡ part_of b s Internals) (e3 : calls ≡ part_of b s Calls) (e4 : returns ≡ part_of b s Returns) where
  pub known-parts : Parted states internals calls returns
  known-parts =
      let h = parts-lent b k.read e1 e2 e3 e4 in
      record {
        internals-lent = record { moves = omega arith; returns = omega arith; lent = h.internals-lent; few = h.few };
        calls-lent = record { moves = omega arith; returns = omega arith; lent = h.calls-lent; few = h.few };
        returns-lent = record { moves = omega arith; returns = omega arith; lent = h.returns-lent; few = h.few };
      }

  -- of records of 3 and 4 bytes the conditions over the width are (ii) to (iv)
  pub parts_tests : (m : List ℕ) → tested (first_failed (part_tests states internals calls returns f m)) ≡ tested (first_failed (map_tests (table_of b) m))
  unfolding part_tests map_tests labels_agree record_matched moves_matched returns_matched
  parts_tests m =
      let n = states-read k.read e1 in
      λ j. tested (first_failed
      ((15, eqb (length m) (length (n j)))
      ∷ (16, numbered m)
      ∷ (17, labels_agree (of_states (n j)) m)
      ∷ (18, records_matched 3 (k.words j) (internals-read k.read e2 j) (length (n j)) m)
      ∷ (19, records_matched 3 (k.words j) (calls-read k.read e3 j) (length (n j)) m)
      ∷ (20, records_matched 4 (k.words j) (returns-read k.read e4 j) (length (n j)) m)
      ∷ []))

-- ---- the answer

-- what is known of a table that was read, with its tops
pub known_of : (x : Examined) → Known x.bytes.now x.starts x.words
known_of x = record { limits = widest; read = record { readable = x.readable; starts = x.starts_known }; words = x.words_known }

-- the same by the bytes that were lent
pub known_at : (x : Examined) {t : Bor (List ℕ)} → x.bytes ≡ t → Known t.now x.starts x.words
known_at x e = subst (λ (t : Bor (List ℕ)). Known t.now x.starts x.words) e (known_of x)

module _ (L : Limits) (b m : List ℕ) where
  -- the check's number of a table that is not readable
  pub unread : (r : Refusal) → read_number L b ≡ number_of r → check_number L b m ≡ number_of r
  unfolding check_number
  unread r e = stage_fails _ _ e (some_number r)
