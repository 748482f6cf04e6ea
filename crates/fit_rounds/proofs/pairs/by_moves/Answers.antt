-- `fit_rounds::pairs::by_moves` meets its contract. The invariant: what the records that are left do. Assumes nothing.
use mathlib.Core.Path.{ap, ◌∙◌}
use native.Mathlib.Omega.{arith}
use Rattle.std.specs.Slice.Iter.{chunks_exact_rest, chunks_exact_size}
use Rattle.fit_rounds.proofs.Passing.{moving, bytes-named, moving_on, moving_done}
use Rattle.fit_rounds.proofs.pairs.by_moves.Goals as goal

pub records-init : goal.records-init
records-init c =
    let e = c.into_iter-fields-iterator.ensures.into_iter_gives in
    let s = c.chunks_exact-fields-items.ensures in
    record {
      can_next = omega (arith, ap chunks_exact_size e, s.size);
      size = ap chunks_exact_size e ∙ s.size;
      left = moving _ _ _ _ _ (ap chunks_exact_rest e ∙ s.rest);
    }

pub by_move-requires : goal.by_move-requires
by_move-requires c =
    let i = c.records.invariant in
    let h = c.in-Some.ensures.steps in
    let b = bytes-named i.left _ _ h.1.0 (h.1.1 ∙ i.size) c.from-p.ensures c.from-a.ensures c.from-q.ensures c.requires.0 in
    (b.0, b.1, b.2, c.requires.1)

pub records-preserved : goal.records-preserved
records-preserved c =
    let i = c.records.invariant in
    let h = c.in-Some.ensures.steps in
    record {
      can_next = omega (arith, h.0, i.can_next);
      size = h.0 ∙ i.size;
      left = moving_on i.left _ _ h.1.0 (h.1.1 ∙ i.size) c.from-p.ensures c.from-a.ensures c.from-q.ensures c.by_move.ensures;
    }

pub returns : goal.returns
returns c = moving_done c.records.invariant.left (omega (arith, c.in-None.ensures.steps.1.0, c.records.invariant.size))
