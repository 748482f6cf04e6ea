-- `fit_rounds::pairs::by_returns` meets its contract. The invariant: what the records that are left do. Assumes nothing.
use mathlib.Core.Path.{ap, ◌∙◌}
use native.Mathlib.Omega.{arith}
use Rattle.std.specs.Slice.Iter.{chunks_exact_rest, chunks_exact_size}
use Rattle.fit_rounds.proofs.Passing.{returning, returns-named, returning_on, returning-done}
use Rattle.fit_rounds.proofs.pairs.by_returns.Goals as goal

pub records-init : goal.records-init
records-init c =
    let e = c.into_iter-fields-iterator.ensures.into_iter_gives in
    let s = c.chunks_exact-fields-items.ensures in
    record {
      can_next = omega (arith, ap chunks_exact_size e, s.size);
      size = ap chunks_exact_size e ∙ s.size;
      left = returning _ _ _ _ (ap chunks_exact_rest e ∙ s.rest);
    }

pub by_return-requires : goal.by_return-requires
by_return-requires c =
    let i = c.records.invariant in
    let h = c.in-Some.ensures.steps in
    let b = returns-named i.left _ _ h.1.0 (h.1.1 ∙ i.size) c.from-p.ensures c.from-a.ensures c.from-s.ensures c.from-q.ensures c.requires.0 in
    (b.0, b.1, b.2, b.3, c.requires.1)

pub records-preserved : goal.records-preserved
records-preserved c =
    let i = c.records.invariant in
    let h = c.in-Some.ensures.steps in
    record {
      can_next = omega (arith, h.0, i.can_next);
      size = h.0 ∙ i.size;
      left = returning_on i.left _ _ h.1.0 (h.1.1 ∙ i.size) c.from-p.ensures c.from-a.ensures c.from-s.ensures c.from-q.ensures c.by_return.ensures;
    }

pub returns : goal.returns
returns c = returning-done c.records.invariant.left (omega (arith, c.in-None.ensures.steps.1.0, c.records.invariant.size))
