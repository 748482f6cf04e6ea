-- A table that is readable at some limits is readable at the widest. Assumes nothing.
use mathlib.Core.Path.{◌≡◌, refl, ◌∙◌}
use mathlib.Core.Bool.{true}
use mathlib.Core.List.{List}
use Prim.Native.Nat.{ℕ, ◌≤◌}
use native.Mathlib.Omega.{arith}
use lib.ListN.{length}
use borrow.Author.Tests.{leb-true, le-leb}
use Rattle.lists.proofs.Members.{and-true, and_of}
use Rattle.lists.specs.Lists.{first_failed}
use Rattle.lists.proofs.Refusals.{passed, passes}
use Rattle.limits.specs.declared.Limits.{Limits}
use Rattle.limits.specs.Limits.{limits_fit, state_most, symbol_most, widest}
use Rattle.limits.proofs.Within.{limits-within}
use Rattle.table_spec.specs.Limits.{longest}
use Rattle.table_spec.specs.File.{Table, table_of}
use Rattle.table_spec.specs.Reading.{counts_fit, table_tests, Readable}
use Rattle.table_spec.proofs.Passed.{read-passed, passed-read}

within : {m n k : ℕ} → m ≤ n → k ≤ m → k ≤ n
within h e = omega arith

module _ (L : Limits) (fit : limits_fit L ≡ true) where
  counts-wider : (t : Table) → counts_fit L t ≡ true → counts_fit widest t ≡ true
  unfolding counts_fit
  counts-wider t e =
      let d5 = and-true _ _ e in
      let d4 = and-true _ _ d5.0 in
      let d3 = and-true _ _ d4.0 in
      let d2 = and-true _ _ d3.0 in
      let d1 = and-true _ _ d2.0 in
      let w = limits-within fit in
      and_of (and_of (and_of (and_of (and_of (le-leb _ _ (within w.symbols (leb-true _ _ d1.0))) d1.1) (le-leb _ _ (within w.states (leb-true _ _ d2.1)))) d3.1) d4.1) d5.1

  tests-wider : (t : Table) → first_failed (table_tests L t) ≡ 0 → first_failed (table_tests widest t) ≡ 0
  unfolding table_tests
  tests-wider t e = let p = passed 4 _ _ (λ z. absurd (omega arith)) e in passes 4 _ (counts-wider t p.0) ∙ p.1

-- whatever the limits, the widest permit no less
pub readable-wider : (L : Limits) (b : List ℕ) → Readable L b → Readable widest b
unfolding longest limits_fit
readable-wider L b e =
    let p = read-passed L b e in
    let w = limits-within {L = L} p.limits in
    passed-read widest b (record {
      limits = refl;
      long = p.long;
      short = omega (arith, p.short, w.states, w.symbols);
      versioned = p.versioned;
      framed = p.framed;
      fits = tests-wider L p.limits (table_of b) p.fits;
    })
