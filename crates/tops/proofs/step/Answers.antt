-- `tops::step` meets its contract. Assumes nothing.
use borrow.Author.Tests.{eq-eqb, ne_eqb}
use Rattle.lists.specs.Bits.{has}
use Rattle.tops.specs.Steps.{step_by}
use Rattle.tops.proofs.step.Goals as goal

pub returns-in-Internal : goal.returns-in-Internal
unfolding step_by
returns-in-Internal c = rw (c.in-Internal.is, step_by) c.add.ensures

pub returns-then-words-from-ne0 : goal.returns-then-words-from-ne0
unfolding step_by
returns-then-words-from-ne0 c =
    rw (c.in-Call.is, step_by, ne_eqb _ _ c.if-words-from-ne0.true, ← c.bit.ensures) c.add-then-words-from-ne0.ensures

pub returns-else-words-from-ne0 : goal.returns-else-words-from-ne0
unfolding step_by
returns-else-words-from-ne0 c = rw (c.in-Call.is, step_by, eq-eqb _ _ c.if-words-from-ne0.false)

pub returns-then-has_bit : goal.returns-then-has_bit
unfolding step_by has
returns-then-has_bit c =
    rw (c.in-Return.is, step_by, ← c.has_bit.ensures, c.if-has_bit.true) c.add-then-has_bit.ensures

pub returns-else-has_bit : goal.returns-else-has_bit
unfolding step_by has
returns-else-has_bit c = rw (c.in-Return.is, step_by, ← c.has_bit.ensures, c.if-has_bit.false)
