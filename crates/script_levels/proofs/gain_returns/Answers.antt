-- `script_levels::gain_returns` meets its contract: what the records to come gain is still to be gained. Assumes nothing.
use mathlib.Core.Path.{ap, ◌∙◌}
use native.Mathlib.Omega.{arith}
use Rattle.std.specs.Slice.Iter.{chunks_exact_rest, chunks_exact_size}
use Rattle.tops_spec.specs.Tops.{add}
use Rattle.script_levels.proofs.Stepping.{running, run-few, run_on, run_end, popped_yes, popped_no}
use Rattle.script_levels.proofs.gain_returns.Goals as goal

pub records-init : goal.records-init
records-init c =
    let e = c.into_iter-fields-iterator.ensures.into_iter_gives in
    let s = c.chunks_exact-fields-items.ensures in
    record {
      can_next = omega (arith, ap chunks_exact_size e, s.size);
      size = ap chunks_exact_size e ∙ s.size;
      left = running _ _ _ _ _ (ap chunks_exact_rest e ∙ s.rest);
    }

pub has_bit-requires : goal.has_bit-requires
has_bit-requires c = omega (arith, c.from-s.ensures, (run-few c.records.invariant.left _ _ (omega arith) c.in-Some.ensures.steps.1.0 (c.in-Some.ensures.steps.1.1 ∙ c.records.invariant.size) c.requires 2 (λ z. omega arith) (omega arith)))

pub bounds-below-s : goal.bounds-below-s
bounds-below-s c = omega (arith, c.from-s.ensures, (run-few c.records.invariant.left _ _ (omega arith) c.in-Some.ensures.steps.1.0 (c.in-Some.ensures.steps.1.1 ∙ c.records.invariant.size) c.requires 2 (λ z. omega arith) (omega arith)))

pub add-requires : goal.add-requires
add-requires c = omega (arith, c.from.ensures, (run-few c.records.invariant.left _ _ (omega arith) c.in-Some.ensures.steps.1.0 (c.in-Some.ensures.steps.1.1 ∙ c.records.invariant.size) c.requires 3 (λ z. omega arith) (omega arith)))

pub records-preserved-then-has_bit : goal.records-preserved-then-has_bit
records-preserved-then-has_bit c =
    let i = c.records.invariant in
    let h = c.in-Some.ensures.steps in
    record {
      can_next = omega (arith, h.0, i.can_next);
      size = h.0 ∙ i.size;
      left = run_on i.left _ _ (omega arith) h.1.0 (h.1.1 ∙ i.size) (c.add.ensures ∙ (λ j. add c.records.words (c.from.ensures j) (popped_yes c.args.reached c.args.below.now c.in-Some.fields.now c.from-s.ensures c.has_bit.ensures c.if-has_bit.true j)));
    }

pub records-preserved : goal.records-preserved
records-preserved c =
    let i = c.records.invariant in
    let h = c.in-Some.ensures.steps in
    record {
      can_next = omega (arith, h.0, i.can_next);
      size = h.0 ∙ i.size;
      left = run_on i.left _ _ (omega arith) h.1.0 (h.1.1 ∙ i.size) (popped_no c.args.reached c.args.below.now c.in-Some.fields.now c.from-s.ensures c.has_bit.ensures c.if-has_bit.false _ _);
    }

pub returns : goal.returns
returns c = run_end c.records.invariant.left (omega (arith, c.in-None.ensures.steps.1.0, c.records.invariant.size))
