-- `fit_worklist::inner_link` meets its contract. The invariant: the rows hold links only. Assumes nothing.
use native.Mathlib.Omega.{arith}
use Rattle.fit_links.proofs.Quickly.{linking, linking_on}
use Rattle.fit_worklist.proofs.inner_link.Goals as goal

pub seconds-init : goal.seconds-init
seconds-init c = linking _ _ _ _ _ _

pub seconds-preserved : goal.seconds-preserved
seconds-preserved c =
    linking_on c.seconds.invariant (omega (arith, c.seconds-test.true)) c.after_move.ensures.0 c.pair-u.ensures.0 c.pair-v.ensures.0 c.requires.1 c.put.ensures

pub returns : goal.returns
returns c = c.seconds.invariant.kept
