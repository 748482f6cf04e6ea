-- `fit_compare::marks::start_rows` meets its contract. The invariant: the pairs below u have their words, the others none. Assumes nothing.
use Rattle.fit_compare.proofs.Marking.{Starting}
use Rattle.fit_compare.proofs.marks.start_rows.Given as goal

abbrev pub invariant-pairs : goal.invariant-pairs
invariant-pairs l = Starting l.first l.second l.initial.rows l.rows l.u
