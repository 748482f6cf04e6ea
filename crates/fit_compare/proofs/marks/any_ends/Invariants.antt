-- `fit_compare::marks::any_ends` meets its contract. The invariant: the answer is that of the pairs from u on. Assumes nothing.
use Rattle.fit_compare.proofs.Marking.{Ending}
use Rattle.fit_compare.proofs.marks.any_ends.Given as goal

abbrev pub invariant-pairs : goal.invariant-pairs
invariant-pairs l = Ending l.first l.second l.rows l.u
