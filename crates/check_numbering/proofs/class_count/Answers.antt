-- `check_numbering::class_count` meets its contract: the count so far, or one past a class still to come. Assumes nothing.
use Rattle.check_spec.proofs.Numbered.{class_on, classed_all}
use Rattle.check_numbering.proofs.class_count.Goals as goal

pub states-preserved : goal.states-preserved
states-preserved c = class_on c.states.invariant c.states-test.true c.from.ensures (rw c.from.ensures (c.type_inv.map c.states.class-index).fits) c.max-n.ensures

pub returns : goal.returns
returns c = classed_all c.states.invariant c.states-test.false
