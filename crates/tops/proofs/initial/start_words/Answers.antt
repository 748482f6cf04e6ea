-- `tops::initial::start_words` meets its contract. The invariant: the words of the states passed, then zeros. Assumes nothing.
use Rattle.tops.proofs.Starts.{start_on, started}
use Rattle.tops.proofs.initial.start_words.Goals as goal

pub states-preserved : goal.states-preserved
states-preserved c = start_on c.states.invariant c.states-test.true c.start_word.ensures

pub returns : goal.returns
returns c = started c.states.invariant c.states-test.false
