-- `combine_keys::push::add_targets` meets its contract: the keys of the records so far are added. Assumes nothing.
use native.Mathlib.Omega.{arith}
use mathlib.Core.Path.{ap, ◌∙◌}
use Prim.Native.Nat.{◌*◌}
use Rattle.table_spec.proofs.Chunks.{chunk_on, chunk_end}
use Rattle.combine_keys.specs.Adding.{row_keys, target_keys}
use Rattle.combine_keys.proofs.Adding.{add_on, add_stop, added}
use Rattle.combine_keys.proofs.push.add_targets.Goals as goal

pub returns-in_err-held : goal.returns-in_err-held
unfolding target_keys
returns-in_err-held c =
    let i = c.records.invariant in
    let h = c.in-Some.ensures.steps in
    add_stop i.walk _ _ (chunk_on _ _ _ (omega (arith, c.requires.0)) h.1.0 (h.1.1 ∙ i.size)) _ _ (ap (λ x. row_keys c.args.prefix (x * c.args.states) c.args.width c.args.second.now) c.from.ensures) c.from_residual.ensures c.in_err-held.ensures

pub records-preserved : goal.records-preserved
records-preserved c =
    let i = c.records.invariant in
    let h = c.in-Some.ensures.steps in
    record {
      can_next = omega (arith, h.0, i.can_next);
      size = h.0 ∙ i.size;
      walk = add_on i.walk _ _ (chunk_on _ _ _ (omega (arith, c.requires.0)) h.1.0 (h.1.1 ∙ i.size)) _ _ (ap (λ x. row_keys c.args.prefix (x * c.args.states) c.args.width c.args.second.now) c.from.ensures) c.add_row.auto.keys c.in_ok-held.ensures;
    }

pub returns : goal.returns
unfolding target_keys
returns c = added c.records.invariant.walk (chunk_end _ (omega (arith, c.in-None.ensures.steps.1.0, c.records.invariant.size)))
