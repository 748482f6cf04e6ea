-- `clauses_states::close_over` meets its contract: the states so far have their clauses. Assumes nothing.
use Rattle.clauses_emit.proofs.Stepping.{over-past, over_on, over_done}
use Rattle.clauses_states.proofs.close_over.Goals as goal

pub states-init : goal.states-init
states-init c =
    over-past _ _ _ _ c.requires

pub states-preserved : goal.states-preserved
states-preserved c =
    over_on c.states.invariant c.states-test.true c.close-at.ensures

pub shape_of-list : goal.shape_of-list
shape_of-list c = c.states.invariant.coming.long

pub returns : goal.returns
returns c = over_done c.states.invariant c.states-test.false
