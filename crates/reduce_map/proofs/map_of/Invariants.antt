-- `reduce_map::map_of` meets its contract: the states so far are numbered. Assumes nothing.
use Rattle.reduce_map.proofs.Numbering.{Numbered}
use Rattle.reduce_map.proofs.map_of.Given as goal

abbrev pub invariant-states : goal.invariant-states
invariant-states l = Numbered l.values l.n l.map l.next l.q
