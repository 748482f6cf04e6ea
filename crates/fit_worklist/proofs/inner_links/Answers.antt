-- `fit_worklist::inner_links` meets its contract. The invariant: the rows hold links only. Assumes nothing.
use mathlib.Core.Path.{ap, ◌∙◌}
use native.Mathlib.Omega.{arith}
use Rattle.std.specs.Slice.Iter.{chunks_exact_rest, chunks_exact_size}
use Rattle.fit_links.proofs.Quickly.{among-here, all_linking, all_linking_on, move_small}
use Rattle.fit_worklist.proofs.inner_links.Goals as goal

pub records-init : goal.records-init
records-init c =
    let e = c.into_iter-fields-iterator.ensures.into_iter_gives in
    let s = c.chunks_exact-fields-items.ensures in
    record {
      can_next = omega (arith, ap chunks_exact_size e, s.size);
      size = ap chunks_exact_size e ∙ s.size;
      walk = all_linking _ _ _ _ (ap chunks_exact_rest e ∙ s.rest);
    }

pub inner_link-requires : goal.inner_link-requires
inner_link-requires c =
    let i = c.records.invariant in
    let h = c.in-Some.ensures.steps in
    let m = move_small _ _ (among-here i.walk.left _ _ (omega arith) h.1.0 (h.1.1 ∙ i.size)) (h.1.1 ∙ i.size) c.from-p.ensures c.from-a.ensures c.from-q.ensures c.requires.0 in
    (m.0, m.1, m.2, c.requires.1)

pub records-preserved : goal.records-preserved
records-preserved c =
    let i = c.records.invariant in
    let h = c.in-Some.ensures.steps in
    record {
      can_next = omega (arith, h.0, i.can_next);
      size = h.0 ∙ i.size;
      walk = all_linking_on i.walk _ _ h.1.0 (h.1.1 ∙ i.size) c.from-p.ensures c.from-a.ensures c.from-q.ensures c.inner_link.ensures;
    }

pub returns : goal.returns
returns c = c.records.invariant.walk.kept
