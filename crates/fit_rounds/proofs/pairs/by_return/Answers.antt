-- `fit_rounds::pairs::by_return` meets its contract. The invariant: the states of the second below b are done. Assumes nothing.
use Rattle.fit_rounds.proofs.Passing.{overs, overs_on, overs_done}
use native.Mathlib.Omega.{arith}
use Rattle.fit_rounds.proofs.pairs.by_return.Goals as goal

pub seconds-init : goal.seconds-init
seconds-init c = overs _ _ _ _ _ _ _

pub by_return_over-requires : goal.by_return_over-requires
by_return_over-requires c = (c.requires.0, c.requires.1, omega (arith, c.seconds-test.true), c.requires.2, c.requires.3, c.requires.4)

pub seconds-preserved : goal.seconds-preserved
seconds-preserved c = overs_on c.seconds.invariant (omega (arith, c.seconds-test.true)) c.by_return_over.ensures

pub returns : goal.returns
returns c = overs_done c.seconds.invariant (omega (arith, c.seconds-test.false))
