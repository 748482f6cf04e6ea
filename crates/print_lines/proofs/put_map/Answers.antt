-- `print_lines::put_map` meets its contract: the classes of the states before this one are put. Assumes nothing.
use mathlib.Core.Path.{◌∙◌}
use native.Mathlib.Omega.{arith}
use Rattle.print_lines.proofs.Mapping.{mapping, map_on, mapped}
use Rattle.print_lines.proofs.put_map.Goals as goal

pub states-init : goal.states-init
states-init c = mapping _ _ _ c.put-to.ensures.inside

pub put_number-to-requires : goal.put_number-to-requires
put_number-to-requires c =
    let i = c.states.invariant in let p = c.put-to.ensures in omega (arith, c.requires, i.few, i.told.long, c.states-test.true, p.place, p.long)

pub states-preserved : goal.states-preserved
states-preserved c =
    map_on c.states.invariant c.states-test.true c.from.ensures c.put_number-to.ensures.put c.put_number-to.ensures.few

pub put-requires : goal.put-requires
put-requires c =
    let i = c.states.invariant in let p = c.put-to.ensures in omega (arith, c.requires, i.few, i.inside, i.told.long, p.place, p.long)

pub shape_of-text : goal.shape_of-text
shape_of-text c =
    c.put.ensures.long ∙ c.states.invariant.told.long ∙ c.put-to.ensures.long

pub returns : goal.returns
returns c =
    let i = c.states.invariant in
    let p = c.put-to.ensures in
    let q = c.put.ensures in
    record { put = mapped i c.states-test.false p q; few = omega (arith, i.few, i.inside, p.place, q.place) }
