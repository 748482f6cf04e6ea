-- `clauses_records::internals::moves` meets its contract: the records so far have their clauses. Assumes nothing.
use mathlib.Core.Path.{ap, ◌∙◌}
use native.Mathlib.Omega.{arith}
use Rattle.clauses_spec.specs.Clauses.{move_clauses}
use Rattle.std.specs.Slice.Iter.{chunks_exact_rest, chunks_exact_size}
use Rattle.clauses_emit.proofs.Emitting.{come_full}
use Rattle.clauses_emit.proofs.Stepping.{along-all, along_on, along-done}
use Rattle.table_index.proofs.Index.{lent-more}
use Rattle.table_index.proofs.Blocks.{indexed_by}
use Rattle.clauses_records.proofs.Moving.{symbol-few}
use Rattle.clauses_records.proofs.internals.moves.Goals as goal

pub starts_of-starts-requires : goal.starts_of-starts-requires
starts_of-starts-requires c = (omega arith, omega (arith, c.from.ensures, c.requires.1), lent-more c.requires.0 (omega (arith, c.from.ensures)))

pub records-init : goal.records-init
unfolding move_clauses
records-init c =
    let e = c.into_iter-fields-iterator.ensures.into_iter_gives in
    let s = c.chunks_exact-fields-items.ensures in
    record {
      can_next = omega (arith, ap chunks_exact_size e, s.size);
      size = ap chunks_exact_size e ∙ s.size;
      along = along-all _ _ _ _ (ap chunks_exact_rest e ∙ s.rest);
    }

pub shape_of-list-then-list-so_far : goal.shape_of-list-then-list-so_far
shape_of-list-then-list-so_far c = c.records.invariant.along.coming.long

pub returns-then-list-so_far : goal.returns-then-list-so_far
returns-then-list-so_far c = come_full c.records.invariant.along.coming c.if-list-so_far.true

pub move_record-so_far-requires : goal.move_record-so_far-requires
move_record-so_far-requires c =
    let l = lent-more c.requires.0 c.requires.1 in
    let x = indexed_by c.from.ensures c.starts_of-starts.ensures in
    (l, x, c.requires.1, symbol-few _ _ c.records.invariant.along (omega arith) c.in-Some.ensures.steps.1.0 (c.in-Some.ensures.steps.1.1 ∙ c.records.invariant.size) l)

pub records-preserved : goal.records-preserved
records-preserved c =
    let i = c.records.invariant in
    let h = c.in-Some.ensures.steps in
    record {
      can_next = omega (arith, h.0, i.can_next);
      size = h.0 ∙ i.size;
      along = along_on i.along _ _ (omega arith) h.1.0 (h.1.1 ∙ i.size) c.move_record-so_far.ensures;
    }

pub shape_of-list : goal.shape_of-list
shape_of-list c = c.records.invariant.along.coming.long

pub returns : goal.returns
returns c = along-done c.records.invariant.along (omega (arith, c.in-None.ensures.steps.1.0, c.records.invariant.size))
