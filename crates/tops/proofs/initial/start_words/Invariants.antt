-- `tops::initial::start_words` meets its contract. The invariant: the words of the states passed, then zeros. Assumes nothing.
use Rattle.tops.proofs.Starts.{Starting}
use Rattle.tops.proofs.initial.start_words.Given as goal

abbrev pub invariant-states : goal.invariant-states
invariant-states l = Starting l.states l.words l.q
