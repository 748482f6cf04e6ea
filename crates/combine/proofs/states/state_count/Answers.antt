-- `combine::states::state_count` meets its contract. Assumes nothing.
use native.Mathlib.Nat.{mul-le-mul_right}
use native.Mathlib.Omega.{arith}
use Rattle.combine.proofs.StateBytes.{count-product, count-sum}
use Rattle.combine.proofs.states.state_count.Goals as goal

pub overflow_mul-result : goal.overflow_mul-result
overflow_mul-result c =
    omega (arith, c.requires.1, mul-le-mul_right {m = c.args.firsts} {n = 40} c.args.seconds c.requires.0)

pub overflow_add-result : goal.overflow_add-result
overflow_add-result c =
    omega (arith, c.requires.0, c.requires.1)

pub returns-in-Intersection : goal.returns-in-Intersection
returns-in-Intersection c = count-product _ _ c.in-Intersection.is

pub returns-in-Union : goal.returns-in-Union
returns-in-Union c = count-sum _ _ c.in-Union.is
