-- `sat_segments::add_segments` meets its contract. The loop's invariant: the words before j have gained those of the variables. Assumes nothing.
use Rattle.sat_segments.proofs.Gathering as laws
use Rattle.sat_segments.proofs.add_segments.Goals as goal

pub words-init : goal.words-init
words-init c = laws.gaining _ _ _ c.requires.1

pub word_over-requires : goal.word_over-requires
word_over-requires c = (c.requires.0, c.words-test.true)

pub words-preserved : goal.words-preserved
words-preserved c = laws.gain_on c.words.invariant c.words-test.true c.word_over.ensures

pub returns : goal.returns
returns c = laws.gain-all c.words.invariant c.words-test.false
