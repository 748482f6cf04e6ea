-- `search::fits::list_fits` meets its contract. The loop's invariant: whether the list fits is whether the words still to come do, and no mark is
-- that of a clause still to come. Assumes nothing.
use native.Mathlib.Omega.{arith}
use mathlib.Core.Path.{refl, sym, ◌∙◌}
use Rattle.search.proofs.Fitting as laws
use Rattle.search.proofs.fits.list_fits.Goals as goal

pub clauses-init : goal.clauses-init
clauses-init c = (laws.judging _ _, c.no_marks-marks.ensures)

pub returns-then-list-at : goal.returns-then-list-at
returns-then-list-at c =
    let i = c.clauses.invariant.0 in
    laws.judge_short i c.clauses-test.true (rw c.from-k.ensures at c.if-list-at.true)

pub clause_fits-requires : goal.clause_fits-requires
clause_fits-requires c =
    (c.requires, c.clauses.invariant.1)

pub returns-then-not-clause_fits : goal.returns-then-not-clause_fits
returns-then-not-clause_fits c =
    let k = c.from-k.ensures in
    laws.judge_unfit
    c.clauses.invariant.0
    c.clauses-test.true
    (rw k at c.if-list-at.false)
    (rw k refl)
    (sym c.clause_fits.ensures.0 ∙ c.if-not-clause_fits.true)

pub clauses-preserved : goal.clauses-preserved
clauses-preserved c =
    let k = c.from-k.ensures in (
      laws.judge_on
          c.clauses.invariant.0
          c.clauses-test.true
          (rw k at c.if-list-at.false)
          (rw k refl)
          (sym c.clause_fits.ensures.0 ∙ c.if-not-clause_fits.false),
      laws.lower_still c.clause_fits.ensures.1 (omega arith),
    )

pub returns : goal.returns
returns c = laws.judge_all c.clauses.invariant.0 c.clauses-test.false
