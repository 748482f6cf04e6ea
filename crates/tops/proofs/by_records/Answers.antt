-- `tops::by_records` meets its contract. The invariant: what the records that are left do to the words as they are. Assumes nothing.
use mathlib.Core.Path.{ap, ◌∙◌}
use Prim.Native.Nat.{◌-◌}
use lib.ListN.{get_or}
use Rattle.tops.proofs.Loops.{states-read, walk_on, walked}
use Rattle.tops.proofs.by_records.Goals as goal

pub step-requires : goal.step-requires
step-requires c =
    let p = c.records.invariant in
    let r = states-read p _ _ c.in-Some.ensures.steps.1 c.from-from.ensures c.from-under.ensures (c.from-to.ensures ∙ ap (λ n. get_or c.in-Some.fields.now (n - 1) 0) c.width_of-width.ensures) in
    (r.0, r.1, r.2, p.long ∙ c.requires.1)

pub records-preserved : goal.records-preserved
records-preserved c = walk_on c.records.invariant _ _ c.in-Some.ensures.steps.1 c.from-from.ensures c.from-under.ensures (c.from-to.ensures ∙ ap (λ n. get_or c.in-Some.fields.now (n - 1) 0) c.width_of-width.ensures) c.in-Some.ensures.steps.0 c.step.ensures

pub returns : goal.returns
returns c = walked c.records.invariant c.in-None.ensures.steps.1.0
