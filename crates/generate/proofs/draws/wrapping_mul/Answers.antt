-- `generate::draws::wrapping_mul` meets its contract: the product fits in 64 bits. Assumes nothing.
use Rattle.std.proofs.Common.{mul-le-mul, arith}
use Rattle.generate.proofs.draws.wrapping_mul.Goals as goal

pub overflow_mul-result : goal.overflow_mul-result
overflow_mul-result c = let h = mul-le-mul {n₁ = c.args.x} {m₁ = c.args.y} {n₂ = 4294967295} {m₂ = 4294967295} (omega (arith, c.well_formed)) (omega (arith, c.well_formed)) in omega (arith, h)
