-- `fit_worklist::push_all` meets its contract. The invariant: the rows hold tops only. Assumes nothing.
use mathlib.Core.Path.{sym, ap, ◌∙◌}
use native.Mathlib.Omega.{arith}
use Rattle.std.specs.Slice.Iter.{chunks_exact_rest, chunks_exact_size}
use Rattle.fit_links.proofs.Quickly.{among-here, among-place, to_the_end, pushing_first, push_on, move_small}
use Rattle.fit_worklist.proofs.push_all.Goals as goal

pub records-init : goal.records-init
records-init c =
    let e = c.into_iter-fields-iterator.ensures.into_iter_gives in
    let s = c.chunks_exact-fields-items.ensures in
    record {
      can_next = omega (arith, ap chunks_exact_size e, s.size);
      size = ap chunks_exact_size e ∙ s.size;
      walk = pushing_first (among-place 3 c.args.calls.now (omega arith) c.requires.0 (ap chunks_exact_rest e ∙ s.rest ∙ to_the_end c.args.from c.args.calls.now));
    }

pub slice_bounds-chunks_exact-end : goal.slice_bounds-chunks_exact-end
slice_bounds-chunks_exact-end c = omega (arith, c.requires.0.inside)

pub returns-then-from-p : goal.returns-then-from-p
returns-then-from-p c = c.records.invariant.walk.kept

pub after_move-requires : goal.after_move-requires
after_move-requires c =
    let i = c.records.invariant in
    let h = c.in-Some.ensures.steps in
    let small = move_small _ _ (among-here i.walk.left _ _ (omega arith) h.1.0 (h.1.1 ∙ i.size)) (h.1.1 ∙ i.size) (sym c.if-from-p.false ∙ c.from.ensures) c.from-a.ensures c.from-q.ensures c.requires.1 in
    (c.requires.2, c.requires.4, small.1)

pub pair-v-requires : goal.pair-v-requires
pair-v-requires c =
    let i = c.records.invariant in
    let h = c.in-Some.ensures.steps in
    let small = move_small _ _ (among-here i.walk.left _ _ (omega arith) h.1.0 (h.1.1 ∙ i.size)) (h.1.1 ∙ i.size) (sym c.if-from-p.false ∙ c.from.ensures) c.from-a.ensures c.from-q.ensures c.requires.1 in
    (small.2, c.after_move.ensures.1, c.requires.2.few)

pub records-preserved : goal.records-preserved
records-preserved c =
    let i = c.records.invariant in
    let h = c.in-Some.ensures.steps in
    let l = h.1.1 ∙ i.size in
    let first = sym c.if-from-p.false ∙ c.from.ensures in
    let small = move_small _ _ (among-here i.walk.left _ _ (omega arith) h.1.0 l) l first c.from-a.ensures c.from-q.ensures c.requires.1 in
    record {
      can_next = omega (arith, h.0, i.can_next);
      size = h.0 ∙ i.size;
      walk = push_on i.walk _ _ h.1.0 l first c.from-a.ensures c.from-q.ensures c.after_move.ensures.0 c.pair-u.ensures.0 c.pair-v.ensures.0 c.requires.4 small.1 c.after_move.ensures.1 c.gain.ensures;
    }

pub returns : goal.returns
returns c = c.records.invariant.walk.kept
