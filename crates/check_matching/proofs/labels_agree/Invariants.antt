-- `check_matching::labels_agree` meets its contract: the states before this one agree with the first of their class. Assumes nothing.
use Rattle.check_matching.proofs.Looks.{Looking}
use Rattle.check_matching.proofs.labels_agree.Given as goal

abbrev pub invariant-states : goal.invariant-states
invariant-states l = Looking l.states l.map l.looks l.q
