-- `fit_worklist::any_marked` meets its contract: the marks still to come. Assumes nothing.
use Rattle.fit_links.proofs.Quickly.{marking, none-marked, one-marked, marking_on}
use Rattle.fit_worklist.proofs.any_marked.Goals as goal

pub pairs-init : goal.pairs-init
pairs-init c = marking _ _

pub returns-then-marks-u-ne0 : goal.returns-then-marks-u-ne0
returns-then-marks-u-ne0 c = one-marked c.pairs.invariant c.pairs-test.true c.if-marks-u-ne0.true

pub pairs-preserved : goal.pairs-preserved
pairs-preserved c = marking_on c.pairs.invariant c.pairs-test.true c.if-marks-u-ne0.false

pub returns : goal.returns
returns c = none-marked c.pairs.invariant c.pairs-test.false
