-- `check_matching::records_matched` meets its contract: the answer is that over the records that are left. Assumes nothing.
use lib.ListN.{length}
use Rattle.std.specs.Slice.Iter.{chunks_exact_rest, chunks_exact_size}
use Rattle.lists.specs.Lists.{all}
use Rattle.table_spec.specs.File.{records}
use Rattle.table_spec.proofs.Chunks.{Left}
use Rattle.check_matching.specs.Matching.{record_met}
use Rattle.check_matching.proofs.records_matched.Given as goal

abbrev pub invariant-records : goal.invariant-records
invariant-records l =
    let met = all (record_met l.width l.words (records l.width l.section) (length l.map) l.map) in
    Left (met (records l.width l.section)) met l.width (chunks_exact_size l.fields-iterator) (chunks_exact_rest l.fields-iterator)
