-- `sat_simplify::put_units` meets its contract. Assumes nothing.
use Rattle.std.proofs.Common.{arith}
use Rattle.lists.proofs.Members.{get_d_mem}
use Rattle.sat_simplify.proofs.Simplifying as laws
use Rattle.sat_simplify.proofs.put_units.Goals as goal

pub variables-init : goal.variables-init
variables-init c = laws.uniting _ _ _

pub put_unit-at-requires : goal.put_unit-at-requires
put_unit-at-requires c =
    (c.requires.values_len_bound.0, c.requires.all_set _ (get_d_mem _ _ _ c.variables-test.true), omega (arith, c.requires.values_len_bound.1, c.variables.invariant.place, c.variables-test.true))

pub variables-preserved : goal.variables-preserved
variables-preserved c = laws.unite_on c.variables.invariant c.variables-test.true c.put_unit-at.ensures
