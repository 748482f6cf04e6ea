-- `sat_trail::retract::undo_to` meets its contract. Assumes nothing.
use mathlib.Core.Path.{refl}
use Rattle.sat_trail.proofs.UndoingTo as laws
use Rattle.sat_trail.proofs.retract.undo_to.Goals as goal

pub trail-init : goal.trail-init
trail-init c = laws.unwinding c.requires.1 c.requires.2

pub trail-preserved : goal.trail-preserved
trail-preserved c = laws.undo-to_on c.requires.1 c.trail.invariant c.trail-test.true refl c.unset.ensures
