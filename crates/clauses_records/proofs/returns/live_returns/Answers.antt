-- `clauses_records::returns::live_returns` meets its contract: the records so far have their clauses. Assumes nothing.
use mathlib.Core.Path.{ap, ◌∙◌}
use native.Mathlib.Omega.{arith}
use Rattle.std.specs.Slice.Iter.{chunks_exact_rest, chunks_exact_size}
use Rattle.clauses_emit.proofs.Emitting.{come_full}
use Rattle.clauses_emit.proofs.Stepping.{along_on, along-done}
use Rattle.table_index.proofs.Index.{lent-more}
use Rattle.table_index.proofs.Blocks.{indexed_by}
use Rattle.clauses_records.proofs.Moving.{symbol-few}
use Rattle.clauses_records.proofs.Returning.{return-all, from-few, under-few}
use Rattle.clauses_records.proofs.returns.live_returns.Goals as goal

pub starts_of-starts-requires : goal.starts_of-starts-requires
starts_of-starts-requires c = (omega arith, omega (arith, c.from.ensures, c.requires.1), lent-more c.requires.0 (omega (arith, c.from.ensures)))

pub records-init : goal.records-init
records-init c =
    let e = c.into_iter-fields-iterator.ensures.into_iter_gives in
    let s = c.chunks_exact-fields-items.ensures in
    record {
      can_next = omega (arith, ap chunks_exact_size e, s.size);
      size = ap chunks_exact_size e ∙ s.size;
      along = return-all _ _ _ _ (ap chunks_exact_rest e ∙ s.rest);
    }

pub shape_of-list-then-list-so_far : goal.shape_of-list-then-list-so_far
shape_of-list-then-list-so_far c = c.records.invariant.along.coming.long

pub returns-then-list-so_far : goal.returns-then-list-so_far
returns-then-list-so_far c = come_full c.records.invariant.along.coming c.if-list-so_far.true

pub live_record-so_far-requires : goal.live_record-so_far-requires
live_record-so_far-requires c =
    let w = c.records.invariant.along in
    let e = c.in-Some.ensures.steps.1.0 in
    let h = c.in-Some.ensures.steps.1.1 ∙ c.records.invariant.size in
    let l = lent-more c.requires.0 c.requires.1 in
    (l, indexed_by c.from.ensures c.starts_of-starts.ensures, from-few w _ _ e h l, symbol-few _ _ w (omega arith) e h l, omega (arith, under-few w _ _ e h l), c.requires.1)

pub records-preserved : goal.records-preserved
records-preserved c =
    let i = c.records.invariant in
    let h = c.in-Some.ensures.steps in
    record {
      can_next = omega (arith, h.0, i.can_next);
      size = h.0 ∙ i.size;
      along = along_on i.along _ _ (omega arith) h.1.0 (h.1.1 ∙ i.size) c.live_record-so_far.ensures;
    }

pub shape_of-list : goal.shape_of-list
shape_of-list c = c.records.invariant.along.coming.long

pub returns : goal.returns
returns c = along-done c.records.invariant.along (omega (arith, c.in-None.ensures.steps.1.0, c.records.invariant.size))
