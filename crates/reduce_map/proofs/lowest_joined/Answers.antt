-- `reduce_map::lowest_joined` meets its contract: each state has its lowest joined state among the variables so far. Assumes nothing.
use native.Mathlib.Omega.{arith}
use Rattle.lists.specs.Lists.{upto}
use Rattle.reduce_map.proofs.Lowest.{all_own, seen_false, seen-later, seen-lower, high_below, seen_all}
use Rattle.reduce_map.proofs.lowest_joined.Goals as goal

pub variables-init : goal.variables-init
unfolding upto
variables-init c = record { inside = omega arith; lowest = all_own _ }

pub variables-preserved-then-values-from-ne1 : goal.variables-preserved-then-values-from-ne1
variables-preserved-then-values-from-ne1 c = seen_false c.requires c.variables.invariant (omega (arith, c.pairs_of-count.ensures, c.variables-test.true)) (rw c.from.ensures at c.if-values-from-ne1.true)

pub bounds-low-q : goal.bounds-low-q
bounds-low-q c = high_below c.requires c.variables.invariant (omega (arith, c.pairs_of-count.ensures, c.variables-test.true)) c.pair_table-table.ensures c.pair_of-pair.ensures c.from-q.ensures

pub variables-preserved-then-low-q : goal.variables-preserved-then-low-q
variables-preserved-then-low-q c = seen-later c.requires c.variables.invariant (omega (arith, c.pairs_of-count.ensures, c.variables-test.true)) c.pair_table-table.ensures c.pair_of-pair.ensures c.from-q.ensures c.if-low-q.true

pub bounds-low-q-in-variables : goal.bounds-low-q-in-variables
bounds-low-q-in-variables c = high_below c.requires c.variables.invariant (omega (arith, c.pairs_of-count.ensures, c.variables-test.true)) c.pair_table-table.ensures c.pair_of-pair.ensures c.from-q.ensures

pub variables-preserved : goal.variables-preserved
variables-preserved c = seen-lower c.requires c.variables.invariant (omega (arith, c.pairs_of-count.ensures, c.variables-test.true)) c.pair_table-table.ensures c.pair_of-pair.ensures c.from-q.ensures (rw c.from.ensures at c.if-values-from-ne1.false) c.if-low-q.false

pub returns : goal.returns
returns c = seen_all c.variables.invariant (omega (arith, c.pairs_of-count.ensures, c.variables-test.false))
