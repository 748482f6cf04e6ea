-- `quotient::states::member_has` meets its contract: no member before this state has the flag. Assumes nothing.
use Rattle.quotient.proofs.ClassBytes.{seeing, member_other, member_plain, member_found, member_none}
use Rattle.quotient.proofs.states.member_has.Goals as goal
use Rattle.quotient.proofs.states.member_has.Goals.{else-class_of-class, then-class_of-class+else-byte-flag-eq1}

pub states-init : goal.states-init
states-init c = seeing _ _ _ _

pub returns-then-byte-flag-eq1 : goal.returns-then-byte-flag-eq1
returns-then-byte-flag-eq1 c =
    member_found c.states.invariant c.states-test.true c.class_of.ensures c.if-class_of-class.true c.if-byte-flag-eq1.true

pub states-preserved : goal.states-preserved
states-preserved c =
    let i = c.states.invariant in
    let t = c.states-test.true in
    let e = c.class_of.ensures in
    elim c.if-class_of-class.branch [ then-class_of-class+else-byte-flag-eq1 w ↦ member_plain i t e w.if-class_of-class.true w.if-byte-flag-eq1.false | else-class_of-class w ↦ member_other i t e w.if-class_of-class.false ]

pub returns : goal.returns
returns c = member_none c.states.invariant c.states-test.false
