-- `sat_segments::add_segments` meets its contract. The loop's invariant: the words before j have gained those of the variables. Assumes nothing.
use lib.Seq.{slice}
use Rattle.sat_segments.proofs.Gathering as laws
use Rattle.sat_segments.proofs.add_segments.Given as goal

abbrev pub invariant-words : goal.invariant-words
invariant-words l = laws.Gaining l.masks (slice l.from l.to l.trail) l.initial.set l.set l.j
