-- `sat_trail::retract::undo` meets its contract. Assumes nothing.
use Rattle.sat_trail.proofs.UndoingTo as laws
use Rattle.sat_trail.proofs.retract.undo.Goals as goal

pub assign-requires : goal.assign-requires
assign-requires c =
    (c.requires.0, laws.flippable c.requires.1 c.undo_to.ensures)

pub returns : goal.returns
returns c =
    laws.flipped c.requires.1 c.undo_to.ensures c.assign.ensures c.from.ensures
