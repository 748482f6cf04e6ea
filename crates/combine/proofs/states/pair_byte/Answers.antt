-- `combine::states::pair_byte` meets its contract. Assumes nothing.
use native.Mathlib.Omega.{arith}
use Rattle.combine.proofs.StateBytes.{byte_of}
use borrow.Author.Rules.{rules}
use Rattle.combine.proofs.states.pair_byte.Goals as goal

pub overflow_mul-result : goal.overflow_mul-result
overflow_mul-result c = omega (arith, c.both-2.ensures.within)

pub overflow_add-result : goal.overflow_add-result
overflow_add-result c =
    omega (arith, c.both-2.ensures.within, c.both.ensures.within)

pub overflow_add-result-2 : goal.overflow_add-result-2
overflow_add-result-2 c =
    let k = c.both-2.ensures.within in let l = c.both.ensures.within in search rules

pub returns : goal.returns
returns c =
    byte_of c.args.x c.args.y c.both.ensures.told c.both-2.ensures.told
