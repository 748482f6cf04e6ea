-- `combine_keys::shift::offset` meets its contract. Assumes nothing.
use Rattle.combine_keys.proofs.Sums.{offset_three, offset_four}
use Rattle.combine_keys.proofs.shift.offset.Goals as goal

pub returns-then-width-eq3 : goal.returns-then-width-eq3
returns-then-width-eq3 c =
    offset_three c.args.states c.if-width-eq3.true

pub returns : goal.returns
returns c =
    offset_four c.args.states c.if-width-eq3.false
