-- `check_numbering::numbered` meets its contract: the states from here on are numbered from the next class. Assumes nothing.
use Rattle.check_spec.proofs.Numbered.{numbering, number_past, number_on, numbered-all}
use Rattle.check_numbering.proofs.numbered.Goals as goal

pub states-init : goal.states-init
states-init c = numbering _

pub returns-then-next-class : goal.returns-then-next-class
returns-then-next-class c = number_past c.states.invariant c.states-test.true c.from-class.ensures c.if-next-class.true

pub states-preserved : goal.states-preserved
states-preserved c = number_on c.states.invariant c.states-test.true c.from-class.ensures c.if-next-class.false c.max-next.ensures

pub returns : goal.returns
returns c = numbered-all c.states.invariant c.states-test.false
