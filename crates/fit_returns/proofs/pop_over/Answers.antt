-- `fit_returns::pop_over` meets its contract. The invariant: the rows hold tops and links only. Assumes nothing.
use mathlib.Core.Path.{◌≡◌, sym, ap, ◌∙◌}
use Prim.Native.Nat.{ℕ, ◌+◌, ◌*◌, ◌/◌, ◌%◌, ◌≤◌}
use native.Mathlib.Omega.{arith}
use native.Mathlib.Nat.{mod-lt, div-add-mod'}
use Rattle.std.specs.Slice.Iter.{chunks_exact_rest, chunks_exact_size}
use Rattle.fit_links.proofs.Quickly.{among-here, among-place, to_the_end, popping_first, pop_past, pop_on, return-small}
use Rattle.fit_returns.proofs.pop_over.Goals as goal

-- the pair that y is
below : (y n : ℕ) → y % (n + 1) ≤ n
below y n = let l = mod-lt y {m = n + 1} (omega arith) in omega arith

back : (y n : ℕ) {z : ℕ} → z ≡ y / (n + 1) → z * (n + 1) + y % (n + 1) ≡ y
back y n e = ap (λ (i : ℕ). i * (n + 1) + y % (n + 1)) e ∙ div-add-mod' y (n + 1)

pub records-init : goal.records-init
records-init c =
    let e = c.into_iter-fields-iterator.ensures.into_iter_gives in
    let s = c.chunks_exact-fields-items.ensures in
    record {
      can_next = omega (arith, ap chunks_exact_size e, s.size);
      size = ap chunks_exact_size e ∙ s.size;
      walk = popping_first (among-place 4 c.args.returns.now (omega arith) c.requires.0 (ap chunks_exact_rest e ∙ s.rest ∙ to_the_end c.args.from c.args.returns.now));
    }

pub slice_bounds-chunks_exact-end : goal.slice_bounds-chunks_exact-end
slice_bounds-chunks_exact-end c = omega (arith, c.requires.0.inside)

pub returns-then-from-p : goal.returns-then-from-p
returns-then-from-p c = c.records.invariant.walk.kept

pub records-preserved-then-from-under : goal.records-preserved-then-from-under
records-preserved-then-from-under c =
    let i = c.records.invariant in
    let h = c.in-Some.ensures.steps in
    record {
      can_next = omega (arith, h.0, i.can_next);
      size = h.0 ∙ i.size;
      walk = pop_past i.walk _ _ h.1.0 (h.1.1 ∙ i.size);
    }

pub after_return-requires : goal.after_return-requires
after_return-requires c =
    let i = c.records.invariant in
    let h = c.in-Some.ensures.steps in
    let small = return-small _ _ (among-here i.walk.left _ _ (omega arith) h.1.0 (h.1.1 ∙ i.size)) (h.1.1 ∙ i.size) (sym c.if-from-p.false ∙ c.from.ensures) c.from-a.ensures c.from-in-records.ensures c.from-q.ensures c.requires.1 in
    (c.requires.2, c.requires.4, small.1, below c.args.y c.args.n)

pub pair-v-requires : goal.pair-v-requires
pair-v-requires c =
    let i = c.records.invariant in
    let h = c.in-Some.ensures.steps in
    let small = return-small _ _ (among-here i.walk.left _ _ (omega arith) h.1.0 (h.1.1 ∙ i.size)) (h.1.1 ∙ i.size) (sym c.if-from-p.false ∙ c.from.ensures) c.from-a.ensures c.from-in-records.ensures c.from-q.ensures c.requires.1 in
    (small.3, c.after_return.ensures.1, c.requires.2.few)

pub records-preserved : goal.records-preserved
records-preserved c =
    let i = c.records.invariant in
    let h = c.in-Some.ensures.steps in
    let l = h.1.1 ∙ i.size in
    let first = sym c.if-from-p.false ∙ c.from.ensures in
    let small = return-small _ _ (among-here i.walk.left _ _ (omega arith) h.1.0 l) l first c.from-a.ensures c.from-in-records.ensures c.from-q.ensures c.requires.1 in
    record {
      can_next = omega (arith, h.0, i.can_next);
      size = h.0 ∙ i.size;
      walk = pop_on i.walk _ _ h.1.0 l first c.from-a.ensures c.from-in-records.ensures c.from-q.ensures (back c.args.y c.args.n c.if-from-under.false) c.after_return.ensures.0 c.pair-v.ensures.0 c.requires.4 small.1 (below c.args.y c.args.n) c.after_return.ensures.1 c.link.ensures;
    }

pub returns : goal.returns
returns c = c.records.invariant.walk.kept
