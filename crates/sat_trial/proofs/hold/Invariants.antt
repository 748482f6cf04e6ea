-- `sat_trial::hold` meets its contract. The loop's invariant: the values passed are those held. Assumes nothing.
use Rattle.lists.proofs.Copying.{Writing}
use Rattle.sat_trial.specs.Trial.{held_if}
use Rattle.sat_trial.proofs.hold.Given as goal

abbrev pub invariant-variables : goal.invariant-variables
invariant-variables l = Writing (held_if l.holds l.initial.y-items) l.initial.y-items l.y-items l.y-index
