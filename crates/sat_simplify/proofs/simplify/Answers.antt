-- `sat_simplify::simplify` meets its contract. Assumes nothing.
use Rattle.std.proofs.Common.{arith, refl}
use Rattle.lists.proofs.Members.{get_d_mem}
use Rattle.sat_simplify.proofs.Simplifying as laws
use Rattle.sat_simplify.proofs.simplify.Goals as goal

pub places-init : goal.places-init
places-init c =
    laws.lightening (omega (arith, c.put_units-at.ensures.0, c.if-out-variables.false, c.put_units-at.auto.out)) refl c.put_units-at.ensures.1

pub put_open-requires-clause-stands : goal.put_open-requires-clause-stands
put_open-requires-clause-stands c =
    rw c.from.ensures (c.requires.places _ (get_d_mem c.args.places.now _ 0 c.places-test.true), c.requires.formed)

pub places-preserved : goal.places-preserved
places-preserved c =
    let put = c.in_ok-at.ensures in
    laws.simplify_on c.places.invariant c.places-test.true put.0 (rw c.from.ensures at put.1)
