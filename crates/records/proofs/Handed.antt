-- The parts of a table that was read, under a map that the check accepts: they fit, and their marks are the table's. Assumes nothing.
use mathlib.Core.Path.{◌≡◌, refl, sym, ap, ◌∙◌, subst}
use mathlib.Core.Bool.{Bool, true, false}
use mathlib.Core.List.{List, ◌++◌, Memᴰ}
use Prim.Native.Nat.{ℕ, ◌≤◌}
use native.Mathlib.Omega.{arith}
use lib.ListN.{length}
use lib.Dec.{leb}
use borrow.Author.Tests.{leb-true, leb-false}
use Rattle.lists.specs.Lists.{first_failed}
use Rattle.limits.specs.declared.Limits.{Limits}
use Rattle.std.specs.Prelude.{Ok}
use Rattle.limits.proofs.Within.{limits-within}
use Rattle.table_spec.specs.File.{Table, records, table_of}
use Rattle.table_spec.specs.Reading.{ascend, WellFormed}
use Rattle.table_spec.specs.Maps.{Proper}
use Rattle.table_spec.specs.declared.Starts.{Starts}
use Rattle.table_spec.proofs.Bytes.{records-wide, read_well_formed}
use Rattle.table_spec.proofs.Passed.{formed_tested}
use Rattle.table_spec.proofs.Facts.{Fit, internals-fit, calls-fit, returns-fit, most-states}
use Rattle.table_view.specs.Sections.{part_of}
use Rattle.table_view.specs.declared.Section.TheVariants.{Internals, Calls, Returns}
use Rattle.table_view.proofs.Parts.{internals-read, calls-read, returns-read}
use Rattle.tops_spec.specs.Tops.{live}
use Rattle.check_spec.specs.Check.{map_tests, check_number}
use Rattle.check_spec.proofs.Accepted.{accepted}
use Rattle.check_spec.proofs.Answers.{by_tests}
use Rattle.check_spec.proofs.Numbered.{classes-few}
use Rattle.check_map.specs.Known.{Known}
use Rattle.check_matching.specs.Matching.{kept}
use Rattle.check_matching.proofs.Matched.{move_kept, return_kept}
use Rattle.records_spec.specs.Fates.{kept_mark, folded_mark, dead_mark, section_fates, having, fates_of, counts_of, records_of}
use Rattle.records_spec.proofs.Counting.{one_each}
use Rattle.records_spec.proofs.Sections.{fates_same}
use Rattle.records_spec.proofs.Answers.{records-short, records_told}
use Rattle.records_fates.specs.Marks.{Fitting}
use Rattle.records.specs.Told.{FittingParts, parted_fates, told_for}

-- ---- the marks of a section of moves, and of returns

moves-marked : (s f m : List ℕ) → section_fates (kept f) m (records 3 s) ≡ section_fates (λ r. true) m (records 3 s)
moves-marked s f m = fates_same (kept f) (λ r. true) m (records 3 s) (λ r d. sym (move_kept f r (omega (arith, records-wide 3 s r d))))

returns-marked : (s f m : List ℕ) → section_fates (kept f) m (records 4 s) ≡ section_fates (live f) m (records 4 s)
unfolding live
returns-marked s f m = fates_same (kept f) (live f) m (records 4 s) (λ r d. sym (return_kept f r (omega (arith, records-wide 4 s r d)) refl refl))

-- ---- a section of a well-formed table

fitting :
    {L : Limits} {t : Table} (wf : WellFormed L t) (kind w : ℕ) (s m : List ℕ) {rs : List (List ℕ)} → 3 ≤ w → w ≤ 4 → Proper t m → records w s ≡ rs
    → Fit t kind w rs → ascend rs ≡ true → Fitting w s m
fitting {L} {t} wf kind w s m {rs} a b p e f o = record {
  moves = a;
  returns = b;
  in_order = ap ascend e ∙ o;
  symbols = λ r d. omega (arith, (f.symbol r (here r d)).0, (formed_tested wf).symbols-few, (limits-within wf.limits).symbols);
  states = λ r d. omega (arith, f.states r (here r d) 0 (λ z. omega arith) (omega arith), p.long);
  few-states = omega (arith, p.long, most-states wf);
  few-classes = omega (arith, p.long, most-states wf, classes-few m p.in_order);
}
  where
    here : (r : List ℕ) → Memᴰ r (records w s) → Memᴰ r rs
    here r d = subst (Memᴰ r) e d

-- ---- the parts

module _ {b f : List ℕ} {s : Starts} (k : Known b s f) (m : List ℕ) (n : first_failed (map_tests (table_of b) m) ≡ 0) {internals calls returns : List ℕ}
    (e2 : internals ≡ part_of b s Internals) (e3 : calls ≡ part_of b s Calls) (e4 : returns ≡ part_of b s Returns) where
  pub parts-fit : FittingParts internals calls returns m
  parts-fit =
      let L = k.limits in
      let wf = read_well_formed L b k.read.readable in
      let t = formed_tested wf in
      let p = (accepted L b m (by_tests L b m k.read.readable ∙ n)).proper in
      record {
        of_internals = fitting wf 0 3 internals m (omega arith) (omega arith) p (internals-read k.read e2) (internals-fit wf) t.internals-ascend;
        of_calls = fitting wf 1 3 calls m (omega arith) (omega arith) p (calls-read k.read e3) (calls-fit wf) t.calls-ascend;
        of_returns = fitting wf 2 4 returns m (omega arith) (omega arith) p (returns-read k.read e4) (returns-fit wf) t.returns-ascend;
      }

  pub parts-marked : parted_fates internals calls returns f m ≡ fates_of (table_of b) m
  unfolding fates_of
  parts-marked =
      λ j. (moves-marked internals f m ∙ ap (section_fates (λ r. true) m) (internals-read k.read e2)) j
      ++ ((moves-marked calls f m ∙ ap (section_fates (λ r. true) m) (calls-read k.read e3)) j
      ++ (returns-marked returns f m ∙ (λ i. section_fates (live (k.words i)) m (returns-read k.read e4 i))) j)

-- ---- the answer

-- a table with a map that the check accepts, as it is handed on
pub accepted-tests : (L : Limits) (b m : List ℕ) → check_number L b m ≡ 0 → first_failed (map_tests (table_of b) m) ≡ 0
accepted-tests L b m n = sym (by_tests L b m (accepted L b m n).readable) ∙ n

pub told_known : (L : Limits) (b m out : List ℕ) → check_number L b m ≡ 0 → told_for (fates_of (table_of b) m) out ≡ records_of L b m out
unfolding told_for counts_of
told_known L b m out e = go (leb (length (fates_of (table_of b) m)) (length out)) refl
  where
    go : (t : Bool) → leb (length (fates_of (table_of b) m)) (length out) ≡ t → told_for (fates_of (table_of b) m) out ≡ records_of L b m out
    go true p =
        let h = leb-true (length (fates_of (table_of b) m)) (length out) p in
        rw (p, told_for) (records_told L b m out e (omega (arith, one_each (table_of b) m)) (λ j. record { all = one_each (table_of b) m j; kept = having kept_mark (fates_of (table_of b) m); folded = having folded_mark (fates_of (table_of b) m); dead = having dead_mark (fates_of (table_of b) m) }) refl)
    go false p =
        let h = leb-false (length (fates_of (table_of b) m)) (length out) p in
        rw (p, told_for) (records-short L b m out e (omega (arith, one_each (table_of b) m)))
