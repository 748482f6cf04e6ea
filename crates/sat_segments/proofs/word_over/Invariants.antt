-- `sat_segments::word_over` meets its contract. The loop's invariant: the word so far is that of the variables from i on. Assumes nothing.
use Rattle.sat_segments.proofs.Gathering as laws
use Rattle.sat_segments.proofs.word_over.Given as goal

abbrev pub invariant-variables : goal.invariant-variables
invariant-variables l = laws.Gathering l.masks l.trail l.from l.to l.j l.word l.i
