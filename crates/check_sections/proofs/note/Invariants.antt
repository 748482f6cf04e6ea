-- `check_sections::note` meets its contract: the room has the bits of the records taken. Assumes nothing.
use Rattle.std.specs.Slice.Iter.{chunks_exact_rest, chunks_exact_size}
use Rattle.check_sections.proofs.Rooms.{Noting}
use Rattle.check_sections.proofs.note.Given as goal

abbrev pub invariant-records : goal.invariant-records
invariant-records l = Noting l.width l.section l.joined l.own l.room (chunks_exact_size l.fields-iterator) (chunks_exact_rest l.fields-iterator)
