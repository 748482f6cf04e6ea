-- `quotient::states::member_mark` meets its contract: no state before this one is a member. Assumes nothing.
use Rattle.quotient.proofs.ClassBytes.{marking, mark-passed, mark-found, mark-none}
use Rattle.quotient.proofs.states.member_mark.Goals as goal

pub states-init : goal.states-init
states-init c = marking _ _ _

pub returns-then-class_of-class : goal.returns-then-class_of-class
returns-then-class_of-class c =
    mark-found c.states.invariant c.states-test.true c.class_of.ensures c.if-class_of-class.true

pub states-preserved : goal.states-preserved
states-preserved c = mark-passed c.states.invariant c.states-test.true c.class_of.ensures c.if-class_of-class.false

pub returns : goal.returns
returns c = mark-none c.states.invariant c.states-test.false
