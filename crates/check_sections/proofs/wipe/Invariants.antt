-- `check_sections::wipe` meets its contract: the words of the records taken are cleared. Assumes nothing.
use Rattle.std.specs.Slice.Iter.{chunks_exact_rest, chunks_exact_size}
use Rattle.check_sections.proofs.Rooms.{Wiping}
use Rattle.check_sections.proofs.wipe.Given as goal

abbrev pub invariant-records : goal.invariant-records
invariant-records l = Wiping l.width l.section l.joined l.own l.room (chunks_exact_size l.fields-iterator) (chunks_exact_rest l.fields-iterator)
