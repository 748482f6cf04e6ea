-- `search::fits::clause_fits` meets its contract. The loop's invariant: the literals passed have variables below the count, each once, and these
-- variables have the mark. Assumes nothing.
use native.Mathlib.Omega.{arith}
use Rattle.search.proofs.Fitting as laws
use Rattle.search.proofs.fits.clause_fits.Goals as goal

pub three_fit-requires : goal.three_fit-requires
three_fit-requires c = c.if-literals-eq3.true

pub returns-then-literals-eq3 : goal.returns-then-literals-eq3
returns-then-literals-eq3 c = (c.three_fit.ensures, laws.lower_still c.requires.1 (omega arith))

pub two_fit-requires : goal.two_fit-requires
two_fit-requires c = c.if-literals-eq2.true

pub returns-then-literals-eq2 : goal.returns-then-literals-eq2
returns-then-literals-eq2 c = (c.two_fit.ensures, laws.lower_still c.requires.1 (omega arith))

pub literals-init : goal.literals-init
literals-init c = (laws.fitting _ _, laws.marked _ c.requires.1)

pub bounds-literals-i : goal.bounds-literals-i
bounds-literals-i c = omega (arith, c.literals-test.true, c.literals.invariant.0.inside)

pub returns-then-variables-x : goal.returns-then-variables-x
returns-then-variables-x c =
    (let w = c.literals.invariant in laws.mark-past (omega (arith, c.literals-test.true)) w.0 w.1 c.requires.0 (omega (arith, c.literals-test.true, w.0.inside)) c.from-x.ensures c.if-variables-x.true, c.literals.invariant.1.below)

pub bounds-marks-x : goal.bounds-marks-x
bounds-marks-x c = omega (arith, c.requires.0, c.if-variables-x.false)

pub returns-then-marks-x : goal.returns-then-marks-x
returns-then-marks-x c =
    (let w = c.literals.invariant in laws.mark_twice (omega (arith, c.literals-test.true)) w.0 w.1 c.requires.0 (omega (arith, c.literals-test.true, w.0.inside)) c.from-x.ensures c.if-variables-x.false c.if-marks-x.true, c.literals.invariant.1.below)

pub bounds-marks-x-in-literals : goal.bounds-marks-x-in-literals
bounds-marks-x-in-literals c =
    omega (arith, c.requires.0, c.if-variables-x.false)

pub literals-preserved : goal.literals-preserved
literals-preserved c =
    (let w = c.literals.invariant in laws.mark-new (omega (arith, c.literals-test.true)) w.0 w.1 c.requires.0 (omega (arith, c.literals-test.true, w.0.inside)) c.from-x.ensures c.if-variables-x.false c.if-marks-x.false, laws.mark_on (omega (arith, c.literals-test.true)) c.literals.invariant.1 (omega (arith, c.literals-test.true, c.literals.invariant.0.inside)) c.from-x.ensures (omega (arith, c.requires.0, c.if-variables-x.false)))

pub returns : goal.returns
returns c =
    (laws.fit-done c.literals.invariant.0 c.literals-test.false, c.literals.invariant.1.below)
