-- `fit_compare::choice::initials` meets its contract: those passed are counted. Assumes nothing.
use Rattle.fit_compare.proofs.Choosing.{Counting}
use Rattle.fit_compare.proofs.choice.initials.Given as goal

abbrev pub invariant-states : goal.invariant-states
invariant-states l = Counting l.states l.count l.state-index
