-- `clauses_states::transitive` meets its contract: the states so far have their clauses. Assumes nothing.
use Rattle.pairs.specs.Triangles.{triangles}
use Rattle.clauses_spec.specs.Clauses.{transitivity}
use Rattle.clauses_emit.proofs.Stepping.{over-all, over_on, over_done}
use Rattle.clauses_states.proofs.transitive.Goals as goal

pub states-init : goal.states-init
states-init c = over-all _ _ _

pub states-preserved : goal.states-preserved
states-preserved c =
    over_on c.states.invariant c.states-test.true c.close_from-at.ensures

pub shape_of-list : goal.shape_of-list
shape_of-list c = c.states.invariant.coming.long

pub returns : goal.returns
unfolding transitivity triangles
returns c = over_done c.states.invariant c.states-test.false
