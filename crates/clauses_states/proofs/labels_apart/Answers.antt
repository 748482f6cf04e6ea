-- `clauses_states::labels_apart` meets its contract: the variables so far have their clauses. Assumes nothing.
use native.Mathlib.Omega.{arith}
use Rattle.clauses_emit.proofs.Stepping.{over-all, over_on, over_done}
use Rattle.clauses_states.proofs.Pairwise.{looked}
use Rattle.clauses_states.proofs.labels_apart.Goals as goal

pub variables-init : goal.variables-init
variables-init c = over-all _ _ _

pub look_apart-at-requires : goal.look_apart-at-requires
look_apart-at-requires c =
    (c.requires, c.pair_table-table.ensures, omega (arith, c.variables-test.true, c.pairs_of-end.ensures))

pub variables-preserved : goal.variables-preserved
variables-preserved c =
    over_on c.variables.invariant c.variables-test.true c.look_apart-at.ensures

pub shape_of-list : goal.shape_of-list
shape_of-list c = c.variables.invariant.coming.long

pub returns : goal.returns
returns c = looked _ _ c.pairs_of-end.ensures (over_done c.variables.invariant c.variables-test.false)
