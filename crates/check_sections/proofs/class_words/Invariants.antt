-- `check_sections::class_words` meets its contract: the states before this one are in the words of their classes. Assumes nothing.
use Rattle.check_sections.proofs.Words.{Classing}
use lib.ListN.{length}
use Rattle.check_sections.proofs.class_words.Given as goal

abbrev pub invariant-states : goal.invariant-states
invariant-states l = Classing l.map l.words l.q
