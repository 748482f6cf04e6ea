-- `sat_simplify::put_set` meets its contract. Assumes nothing.
use Rattle.std.proofs.Common.{arith, ◌<◌}
use Rattle.lists.proofs.Members.{get_d_any}
use Rattle.cnf.specs.Clauses.{value_of}
use Rattle.sat_simplify.proofs.Simplifying as laws
use Rattle.sat_simplify.proofs.put_set.Goals as goal

pub variables-init : goal.variables-init
variables-init c = laws.setting _ _

pub variables-preserved-then-values-x-eq2 : goal.variables-preserved-then-values-x-eq2
variables-preserved-then-values-x-eq2 c = laws.set_past c.variables.invariant c.variables-test.true c.if-values-x-eq2.true

pub put_unit-at-requires : goal.put_unit-at-requires
put_unit-at-requires c =
    let small : value_of c.args.values.now c.variables.x < 2 = omega (arith, c.requires.by_index c.variables.x, c.if-values-x-eq2.false, get_d_any c.args.values.now c.variables.x 2 0 c.variables-test.true) in
    (c.requires.values_len_bound.0, (c.variables-test.true, small), omega (arith, c.requires.values_len_bound.1, c.variables.invariant.few, c.variables-test.true))

pub variables-preserved : goal.variables-preserved
variables-preserved c = laws.set_put c.variables.invariant c.variables-test.true c.if-values-x-eq2.false c.put_unit-at.ensures
