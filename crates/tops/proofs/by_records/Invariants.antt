-- `tops::by_records` meets its contract. The invariant: what the records that are left do to the words as they are. Assumes nothing.
use Rattle.std.specs.Slice.Iter.{chunks_exact_rest, chunks_exact_size}
use Rattle.tops.proofs.Loops.{Walking}
use Rattle.tops.proofs.by_records.Given as goal

abbrev pub invariant-records : goal.invariant-records
invariant-records l = Walking l.kind l.section l.initial.words (chunks_exact_size l.fields-iterator) (chunks_exact_rest l.fields-iterator) l.words
