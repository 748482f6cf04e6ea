-- `read_contents::ascends` meets its contract: the records so far ascend. Assumes nothing.
use mathlib.Core.Path.{ap, ◌∙◌}
use native.Mathlib.Omega.{arith}
use Rattle.std.specs.Slice.Iter.{chunks_exact_rest, chunks_exact_size}
use Rattle.table_find.proofs.Walks.{rising, too_few, risen, rises, falls}
use Rattle.read_contents.proofs.ascends.Goals as goal

pub returns-then-section-width : goal.returns-then-section-width
returns-then-section-width c = too_few _ _ c.if-section-width.true

pub records-init : goal.records-init
records-init c =
    let e = c.into_iter-fields-iterator.ensures.into_iter_gives in
    let n = c.chunks_exact-fields-items.ensures in
    rising c.args.section.now _ (omega (arith, c.requires)) (λ i. (c.type_inv.section i).fits) c.if-section-width.false c.number_at-last.ensures (ap chunks_exact_size e ∙ n.size) (ap chunks_exact_rest e ∙ n.rest)

pub returns-then-number-last : goal.returns-then-number-last
returns-then-number-last c = falls c.records.invariant _ _ c.in-Some.ensures.steps.1 c.number_at-number.ensures c.if-number-last.true

pub records-preserved : goal.records-preserved
records-preserved c = rises c.records.invariant _ _ c.in-Some.ensures.steps.1 c.number_at-number.ensures c.in-Some.ensures.steps.0 c.if-number-last.false

pub returns : goal.returns
returns c = risen c.records.invariant c.in-None.ensures.steps.1.0
