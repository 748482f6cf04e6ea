-- `check_sections::note` meets its contract: the room has the bits of the records taken. Assumes nothing.
use mathlib.Core.Path.{ap, ◌∙◌}
use Rattle.std.specs.Slice.Iter.{chunks_exact_rest, chunks_exact_size}
use Rattle.check_sections.proofs.Rooms.{noting, note_on, all_noted, placed-here}
use Rattle.check_sections.proofs.note.Goals as goal

pub records-init : goal.records-init
records-init c =
    let e = c.into_iter-fields-iterator.ensures.into_iter_gives in
    let n = c.chunks_exact-fields-items.ensures in
    noting _ _ _ _ c.requires.0 c.requires.1 (ap chunks_exact_size e ∙ n.size) (ap chunks_exact_rest e ∙ n.rest)

pub put-requires : goal.put-requires
put-requires c = placed-here c.records.invariant.ahead _ _ c.in-Some.ensures.steps.1 c.requires.0

pub records-preserved : goal.records-preserved
records-preserved c = note_on c.records.invariant _ _ c.in-Some.ensures.steps.1 c.in-Some.ensures.steps.0 c.requires.0 c.put.ensures

pub returns : goal.returns
returns c = all_noted c.records.invariant c.in-None.ensures.steps.1.0
