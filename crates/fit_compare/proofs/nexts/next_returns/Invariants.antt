-- `fit_compare::nexts::next_returns` meets its contract. The invariant: the places below i are filled. Assumes nothing.
use Rattle.fit_compare.proofs.Targets.{Filling, return_at}
use Rattle.table_spec.specs.File.{records}
use Rattle.fit_compare.proofs.nexts.next_returns.Given as goal

abbrev pub invariant-returns : goal.invariant-returns
invariant-returns l = Filling (return_at (records 4 l.section) l.sink) 20000 l.next l.i
