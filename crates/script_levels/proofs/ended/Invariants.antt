-- `script_levels::ended` meets its contract. Assumes nothing.
use Rattle.script_levels.proofs.Ending.{Ending}
use Rattle.script_levels.proofs.ended.Given as goal

abbrev pub invariant-states : goal.invariant-states
invariant-states l = Ending l.states l.level l.q
