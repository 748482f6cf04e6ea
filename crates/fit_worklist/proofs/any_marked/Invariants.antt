-- `fit_worklist::any_marked` meets its contract: the marks still to come. Assumes nothing.
use Rattle.fit_links.proofs.Quickly.{Marking}
use Rattle.fit_worklist.proofs.any_marked.Given as goal

abbrev pub invariant-pairs : goal.invariant-pairs
invariant-pairs l = Marking l.marks l.pairs l.u
