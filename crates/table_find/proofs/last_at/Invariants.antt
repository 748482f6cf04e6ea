-- `table_find::last_at` meets its contract: the records so far start with the key. Assumes nothing.
use Rattle.table_find.proofs.Spanning.{Passing}
use Rattle.table_find.proofs.last_at.Given as goal

abbrev pub invariant-records : goal.invariant-records
invariant-records l = Passing l.width l.section l.wanted l.from l.i
