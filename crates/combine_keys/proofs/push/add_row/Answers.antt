-- `combine_keys::push::add_row` meets its contract: the keys of the records so far are added. Assumes nothing.
use native.Mathlib.Omega.{arith}
use mathlib.Core.Path.{ap, ◌∙◌}
use mathlib.Core.List.{[], ◌∷◌}
use Prim.Native.Nat.{◌+◌, ◌*◌}
use Rattle.table_spec.proofs.Chunks.{chunk_on, chunk_end}
use Rattle.combine_keys.specs.Adding.{row_keys}
use Rattle.combine_keys.proofs.Adding.{add_on, add_stop, added}
use Rattle.combine_keys.proofs.push.add_row.Goals as goal

pub returns-in_err-held : goal.returns-in_err-held
unfolding row_keys
returns-in_err-held c =
    let i = c.records.invariant in
    let h = c.in-Some.ensures.steps in
    add_stop i.walk _ _ (chunk_on _ _ _ (omega (arith, c.requires.0)) h.1.0 (h.1.1 ∙ i.size)) _ _ (ap (λ x. (c.args.prefix * 256 + (c.args.base + x)) ∷ []) c.from-target.ensures) c.from_residual.ensures c.in_err-held.ensures

pub records-preserved : goal.records-preserved
records-preserved c =
    let i = c.records.invariant in
    let h = c.in-Some.ensures.steps in
    record {
      can_next = omega (arith, h.0, i.can_next);
      size = h.0 ∙ i.size;
      walk = add_on i.walk _ _ (chunk_on _ _ _ (omega (arith, c.requires.0)) h.1.0 (h.1.1 ∙ i.size)) _ _ (ap (λ x. (c.args.prefix * 256 + (c.args.base + x)) ∷ []) c.from-target.ensures) c.push.auto.keys c.in_ok-held.ensures;
    }

pub returns : goal.returns
unfolding row_keys
returns c = added c.records.invariant.walk (chunk_end _ (omega (arith, c.in-None.ensures.steps.1.0, c.records.invariant.size)))
