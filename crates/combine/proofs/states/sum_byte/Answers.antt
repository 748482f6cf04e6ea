-- `combine::states::sum_byte` meets its contract. Assumes nothing.
use native.Mathlib.Omega.{arith}
use Rattle.combine.proofs.StateBytes.{sum_first, sum-second, sum_inside}
use borrow.Author.Rules.{rules}
use Rattle.combine.proofs.states.sum_byte.Goals as goal

pub returns-then-state-firsts : goal.returns-then-state-firsts
returns-then-state-firsts c =
    sum_first c.args.first.now c.args.second.now c.if-state-firsts.true

pub bounds-second-state : goal.bounds-second-state
bounds-second-state c =
    let l = sum_inside c.args.first.now c.args.second.now c.requires (omega (arith, c.if-state-firsts.false)) in search rules

pub returns : goal.returns
returns c =
    sum-second c.args.first.now c.args.second.now (omega (arith, c.if-state-firsts.false))
