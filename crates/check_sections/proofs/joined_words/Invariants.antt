-- `check_sections::joined_words` meets its contract: the states before this one have their words. Assumes nothing.
use Rattle.check_sections.proofs.Words.{Joining}
use lib.ListN.{length}
use Rattle.check_sections.proofs.joined_words.Given as goal

abbrev pub invariant-states : goal.invariant-states
invariant-states l = Joining l.map l.joined l.q
