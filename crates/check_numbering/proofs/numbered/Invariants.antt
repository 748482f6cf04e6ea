-- `check_numbering::numbered` meets its contract: the states from here on are numbered from the next class. Assumes nothing.
use Rattle.check_spec.proofs.Numbered.{Numbering}
use Rattle.check_numbering.proofs.numbered.Given as goal

abbrev pub invariant-states : goal.invariant-states
invariant-states l = Numbering l.map l.next l.class-index
