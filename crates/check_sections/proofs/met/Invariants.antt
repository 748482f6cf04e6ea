-- `check_sections::met` meets its contract: the answer is that over the records that are left. Assumes nothing.
use Rattle.std.specs.Slice.Iter.{chunks_exact_rest, chunks_exact_size}
use Rattle.lists.specs.Lists.{all}
use Rattle.table_spec.specs.File.{records}
use Rattle.table_spec.proofs.Chunks.{Left}
use Rattle.check_sections.specs.Rooms.{met_by}
use Rattle.check_sections.proofs.Rooms.{Ahead}
use Rattle.check_sections.proofs.met.Given as goal

abbrev pub invariant-records : goal.invariant-records
invariant-records l =
    let every = all (met_by l.words l.joined l.askers l.tops l.room) in
    Left (every (records l.width l.section)) every l.width (chunks_exact_size l.fields-iterator) (chunks_exact_rest l.fields-iterator)
    × Ahead l.width l.section (chunks_exact_size l.fields-iterator) (chunks_exact_rest l.fields-iterator)
