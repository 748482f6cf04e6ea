-- `check_sections::filter_live` meets its contract: the live returns among the records taken. Assumes nothing.
use Rattle.std.specs.Slice.Iter.{chunks_exact_rest, chunks_exact_size}
use Rattle.check_sections.proofs.Live.{Gathering}
use Rattle.check_sections.proofs.filter_live.Given as goal

abbrev pub invariant-records : goal.invariant-records
invariant-records l = Gathering l.words l.section l.live l.n (chunks_exact_size l.fields-iterator) (chunks_exact_rest l.fields-iterator)
