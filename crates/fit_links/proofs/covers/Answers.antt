-- `fit_links::covers` meets its contract: what is still to come of the words. Assumes nothing.
use Rattle.fit_links.proofs.Quickly.{covering, cover_on, cover_not, covered}
use Rattle.fit_links.proofs.covers.Goals as goal

pub words-init : goal.words-init
words-init c = covering _ _ _

pub returns-then-rows-i : goal.returns-then-rows-i
returns-then-rows-i c =
    cover_not c.words.invariant c.words-test.true c.if-rows-i.true

pub words-preserved : goal.words-preserved
words-preserved c =
    cover_on c.words.invariant c.words-test.true c.if-rows-i.false

pub returns : goal.returns
returns c = covered c.words.invariant c.words-test.false
