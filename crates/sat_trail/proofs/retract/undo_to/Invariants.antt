-- `sat_trail::retract::undo_to` meets its contract. The loop's invariant: the variables from place i of the trail on are unset. Assumes nothing.
use Rattle.sat_trail.proofs.UndoingTo as laws
use Rattle.sat_trail.proofs.retract.undo_to.Given as goal

abbrev pub invariant-trail : goal.invariant-trail
invariant-trail l = laws.Unwinding l.n l.initial.values l.trail l.mark l.count l.values l.rows.joined l.rows.apart l.i
