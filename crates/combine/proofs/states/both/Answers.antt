-- `combine::states::both` meets its contract. Assumes nothing.
use native.Mathlib.Omega.{arith}
use Rattle.combine.proofs.StateBytes.{first_even, second_even, both_odd}
use Rattle.combine.proofs.states.both.Goals as goal

pub returns-then-x-ne1 : goal.returns-then-x-ne1
returns-then-x-ne1 c =
    record { within = omega arith; told = first_even c.args.x c.args.y c.if-x-ne1.true }

pub returns-then-y-ne1 : goal.returns-then-y-ne1
returns-then-y-ne1 c =
    record { within = omega arith; told = second_even c.args.x c.args.y c.if-y-ne1.true }

pub returns : goal.returns
returns c =
    record { within = omega arith; told = both_odd c.args.x c.args.y c.if-x-ne1.false c.if-y-ne1.false }
