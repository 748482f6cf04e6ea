-- `season::lengths::lengths_fit` meets its contract: what is left of the buffer after the lengths so far. Assumes nothing.
use Rattle.season.proofs.Sums.{Lefts}
use Rattle.season.proofs.lengths.lengths_fit.Given as goal

abbrev pub invariant-lengths : goal.invariant-lengths
invariant-lengths l = Lefts l.all l.lengths l.left l.length-index
