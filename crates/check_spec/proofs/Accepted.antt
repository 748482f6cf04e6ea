-- The check accepts a properly numbered map of a readable table exactly when it meets Definition 1. Assumes nothing.
use mathlib.Core.Path.{◌≡◌, ◌∙◌}
use mathlib.Core.Logic.{◌↔◌}
use mathlib.Core.List.{List}
use Prim.Native.Nat.{ℕ}
use native.Mathlib.Omega.{arith}
use borrow.Author.Tests.{eqb-true, eq-eqb}
use Rattle.lists.specs.Lists.{first_failed}
use Rattle.lists.proofs.Refusals.{passed, passes, no_test, stage-passes, stage-passed}
use Rattle.vpa.proofs.Relations.{matched_of, joined_raq}
use Rattle.limits.specs.declared.Limits.{Limits}
use Rattle.table_spec.specs.File.{Table, table_of}
use Rattle.table_spec.specs.Reading.{Readable, WellFormed}
use Rattle.table_spec.specs.Language.{automaton}
use Rattle.table_spec.specs.Maps.{class_of, JoinedBy, Proper, RaqMap}
use Rattle.table_spec.proofs.Bytes.{read_well_formed}
use Rattle.tops_spec.proofs.Formed.{reachable?}
use Rattle.check_spec.specs.Check.{map_tests, check_number}
use Rattle.check_spec.proofs.Conditions.{passed_matched, matched_passed}

module _ (L : Limits) (t : Table) (wf : WellFormed L t) (m : List ℕ) where
  tests_raq : first_failed (map_tests t m) ≡ 0 → Proper t m × RaqMap t m
  unfolding map_tests
  tests_raq e =
      let a = passed 15 _ _ (omega arith) e in
      let b = passed 16 _ _ (omega arith) a.1 in
      let c = passed 17 _ _ (omega arith) b.1 in
      let d = passed 18 _ _ (omega arith) c.1 in
      let f = passed 19 _ _ (omega arith) d.1 in
      let g = passed 20 _ _ (omega arith) f.1 in (
        record { long = eqb-true _ _ a.0; in_order = b.0 },
        (joined_raq (automaton t) (class_of m) (λ q s lq ls. reachable? wf q s)).0 (passed_matched L t wf m (record { looks = c.0; internals = d.0; calls = f.0; returns = g.0 })),
      )

  raq_tests : Proper t m → RaqMap t m → first_failed (map_tests t m) ≡ 0
  unfolding map_tests
  raq_tests p raq =
      let h = matched_passed L t wf m (λ p q j. raq.accepting j) (matched_of (automaton t) (JoinedBy t m) raq) in
      passes 15 _ (eq-eqb _ _ p.long) ∙ passes 16 _ p.in_order ∙ passes 17 _ h.looks ∙ passes 18 _ h.internals ∙ passes 19 _ h.calls ∙ passes 20 _ h.returns ∙ no_test

-- what it says that the check accepts
pub record Accepted (L : Limits) (b m : List ℕ) : Type 0 where
  pub readable : Readable L b
  pub proper : Proper (table_of b) m
  pub raq : RaqMap (table_of b) m

module _ (L : Limits) (b m : List ℕ) where
  pub accepted : check_number L b m ≡ 0 → Accepted L b m
  unfolding check_number
  accepted e =
      let p = stage-passed _ _ e in
      let k = tests_raq L (table_of b) (read_well_formed L b p.0) m p.1 in
      record { readable = p.0; proper = k.0; raq = k.1 }

  pub accepts : Accepted L b m → check_number L b m ≡ 0
  unfolding check_number
  accepts h = stage-passes _ _ h.readable ∙ raq_tests L (table_of b) (read_well_formed L b h.readable) m h.proper h.raq

  -- demand 2
  pub check_exact : Readable L b → Proper (table_of b) m → (check_number L b m ≡ 0) ↔ RaqMap (table_of b) m
  check_exact r p = (λ e. (accepted e).raq, λ raq. accepts (record { readable = r; proper = p; raq = raq }))
