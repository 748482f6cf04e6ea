-- `season::lengths::lengths_fit` meets its contract: what is left of the buffer after the lengths so far. Assumes nothing.
use borrow.Author.Rules.{rules}
use Rattle.season.proofs.Sums.{begin_lefts, next-left, too_few, too_many, too_long, left_over}
use Rattle.season.proofs.lengths.lengths_fit.Goals as goal

pub returns-then-lengths-lt1 : goal.returns-then-lengths-lt1
returns-then-lengths-lt1 c = too_few _ _ c.if-lengths-lt1.true

pub returns-then-lengths-gt8 : goal.returns-then-lengths-gt8
returns-then-lengths-gt8 c = too_many _ _ c.if-lengths-gt8.true

pub lengths-init : goal.lengths-init
lengths-init c = begin_lefts _ _ (search rules) (search rules)

pub returns-then-left-length : goal.returns-then-left-length
returns-then-left-length c = too_long c.lengths.invariant (search rules) c.if-left-length.true

pub lengths-preserved : goal.lengths-preserved
lengths-preserved c = next-left c.lengths.invariant (search rules) c.if-left-length.false

pub returns : goal.returns
returns c = left_over c.lengths.invariant c.lengths-test.false
