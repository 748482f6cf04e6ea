-- `fit_compare::nexts::next_moves` meets its contract. The invariant: the places below i are filled. Assumes nothing.
use Rattle.fit_compare.proofs.Targets.{Filling, move_at}
use Rattle.table_spec.specs.File.{records}
use Rattle.fit_compare.proofs.nexts.next_moves.Given as goal

abbrev pub invariant-moves : goal.invariant-moves
invariant-moves l = Filling (move_at (records 3 l.section) l.sink) 800 l.next l.i
