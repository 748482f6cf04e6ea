-- `script_levels::ended` meets its contract. Assumes nothing.
use Rattle.script_levels.proofs.Ending.{ending, pass-state, pass-word, end_found, end_none}
use Rattle.script_levels.proofs.ended.Goals as goal
use Rattle.script_levels.proofs.ended.Goals.{else-state-eq1, then-state-eq1+else-has_bit}

pub states-init : goal.states-init
states-init c = ending _ _

pub returns-then-has_bit : goal.returns-then-has_bit
returns-then-has_bit c =
    end_found c.states.invariant c.states-test.true c.if-state-eq1.true c.has_bit.ensures c.if-has_bit.true

pub states-preserved : goal.states-preserved
states-preserved c =
    let i = c.states.invariant in
    let t = c.states-test.true in
    elim c.if-state-eq1.branch [ then-state-eq1+else-has_bit a ↦ pass-word i t a.if-state-eq1.true a.has_bit.ensures a.if-has_bit.false | else-state-eq1 a ↦ pass-state i t a.if-state-eq1.false ]

pub returns : goal.returns
returns c = end_none c.states.invariant c.states-test.false
