-- `check_numbering::class_count` meets its contract: the count so far, or one past a class still to come. Assumes nothing.
use Rattle.check_spec.proofs.Numbered.{Classing}
use Rattle.check_numbering.proofs.class_count.Given as goal

abbrev pub invariant-states : goal.invariant-states
invariant-states l = Classing l.map l.n l.class-index
