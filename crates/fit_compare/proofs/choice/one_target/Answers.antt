-- `fit_compare::choice::one_target` meets its contract: no two neighbours so far differ in their target alone. Assumes nothing.
use native.Mathlib.Omega.{arith}
use mathlib.Core.Path.{sym, ap, ◌∙◌}
use mathlib.Core.Bool.{true≢false}
use Rattle.std.specs.Slice.Iter.{chunks_exact_rest, chunks_exact_size}
use Rattle.lists.proofs.Members.{same_true, same_of}
use Rattle.fit_compare.proofs.Settling.{pointwise_same}
use Rattle.fit_compare.proofs.Choosing.{neighbouring, no_neighbour, neighbours_done, neighbours_meet, neighbours_on}
use Rattle.fit_compare.proofs.choice.one_target.Goals as goal

pub returns-then-section-width : goal.returns-then-section-width
returns-then-section-width c = no_neighbour _ c.requires.0 c.if-section-width.true

pub records-init : goal.records-init
records-init c =
    let e = c.into_iter-fields-iterator.ensures.into_iter_gives in
    let s = c.chunks_exact-fields-items.ensures in
    record {
      can_next = omega (arith, ap chunks_exact_size e, s.size, c.requires.0);
      size = ap chunks_exact_size e ∙ s.size;
      walk = neighbouring _ c.requires.0 c.if-section-width.false (ap chunks_exact_rest e ∙ s.rest);
    }

pub returns-then-eq : goal.returns-then-eq
returns-then-eq c =
    let i = c.records.invariant in
    let h = c.in-Some.ensures.steps in
    neighbours_meet c.requires.0 c.requires.1 i.walk _ _ h.1.0 (h.1.1 ∙ i.size) (same_true _ _ (sym (pointwise_same _ _) ∙ sym c.eq.ensures ∙ c.if-eq.true))

pub records-preserved : goal.records-preserved
records-preserved c =
    let i = c.records.invariant in
    let h = c.in-Some.ensures.steps in
    record {
      can_next = omega (arith, h.0, i.can_next);
      size = h.0 ∙ i.size;
      walk = neighbours_on c.requires.0 c.requires.1 i.walk _ _ h.1.0 (h.1.1 ∙ i.size) (λ e. true≢false (sym (c.eq.ensures ∙ pointwise_same _ _ ∙ same_of e) ∙ c.if-eq.false));
    }

pub returns : goal.returns
returns c = neighbours_done c.requires.0 c.requires.1 c.records.invariant.walk (omega (arith, c.in-None.ensures.steps.1.0, c.records.invariant.size))
