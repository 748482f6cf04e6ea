-- `fit_compare::choice::initials` meets its contract: those passed are counted. Assumes nothing.
use Rattle.fit_compare.proofs.Choosing.{counting, counted, passed_over, all-counted}
use Rattle.fit_compare.proofs.choice.initials.Goals as goal
use Rattle.fit_compare.proofs.choice.initials.Goals.{else-state-eq1, then-state-eq1}

pub states-init : goal.states-init
states-init c = counting _

pub states-preserved : goal.states-preserved
states-preserved c =
    let i = c.states.invariant in
    let l = c.states-test.true in
    elim c.if-state-eq1.branch [ then-state-eq1 w ↦ rw w.count-is (counted i l w.if-state-eq1.true) | else-state-eq1 w ↦ rw w.count-is (passed_over i l w.if-state-eq1.false) ]

pub returns : goal.returns
returns c = all-counted c.states.invariant c.states-test.false
