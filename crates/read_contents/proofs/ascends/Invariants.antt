-- `read_contents::ascends` meets its contract: the records so far ascend. Assumes nothing.
use Rattle.std.specs.Slice.Iter.{chunks_exact_rest, chunks_exact_size}
use Rattle.table_find.proofs.Walks.{Rising}
use Rattle.read_contents.proofs.ascends.Given as goal

abbrev pub invariant-records : goal.invariant-records
invariant-records l = Rising l.width l.section l.last (chunks_exact_size l.fields-iterator) (chunks_exact_rest l.fields-iterator)
