-- `script_levels::gain_moves` meets its contract: what the records to come gain is still to be gained. Assumes nothing.
use mathlib.Core.Path.{ap, ◌∙◌}
use native.Mathlib.Omega.{arith}
use Rattle.std.specs.Slice.Iter.{chunks_exact_rest, chunks_exact_size}
use Rattle.tops_spec.specs.Tops.{add}
use Rattle.script_levels.proofs.Stepping.{running, run-few, run_on, run_end}
use Rattle.script_levels.proofs.gain_moves.Goals as goal

pub records-init : goal.records-init
records-init c =
    let e = c.into_iter-fields-iterator.ensures.into_iter_gives in
    let s = c.chunks_exact-fields-items.ensures in
    record {
      can_next = omega (arith, ap chunks_exact_size e, s.size);
      size = ap chunks_exact_size e ∙ s.size;
      left = running _ _ _ _ _ (ap chunks_exact_rest e ∙ s.rest);
    }

pub add-requires : goal.add-requires
add-requires c = omega (arith, c.from.ensures, (run-few c.records.invariant.left _ _ (omega arith) c.in-Some.ensures.steps.1.0 (c.in-Some.ensures.steps.1.1 ∙ c.records.invariant.size) c.requires 2 (λ z. omega arith) (omega arith)))

pub records-preserved : goal.records-preserved
records-preserved c =
    let i = c.records.invariant in
    let h = c.in-Some.ensures.steps in
    record {
      can_next = omega (arith, h.0, i.can_next);
      size = h.0 ∙ i.size;
      left = run_on i.left _ _ (omega arith) h.1.0 (h.1.1 ∙ i.size) (c.add.ensures ∙ ap (λ q. add c.records.words q c.args.w) c.from.ensures);
    }

pub returns : goal.returns
returns c = run_end c.records.invariant.left (omega (arith, c.in-None.ensures.steps.1.0, c.records.invariant.size))
