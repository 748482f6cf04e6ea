-- `reduce_map::lowest_joined` meets its contract: each state has its lowest joined state among the variables so far. Assumes nothing.
use Rattle.reduce_map.proofs.Lowest.{Seen}
use Rattle.reduce_map.proofs.lowest_joined.Given as goal

abbrev pub invariant-variables : goal.invariant-variables
invariant-variables l = Seen l.values l.n l.x l.low
