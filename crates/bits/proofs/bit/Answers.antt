-- `bits::bit` meets its contract: a shift by less than the width is a power of two. Assumes nothing.
use mathlib.Core.Path.{◌∙◌}
use native.Mathlib.Omega.{arith}
use lib.Pow.{shl_exact}
use Rattle.bits.proofs.bit.Goals as goal

pub returns : goal.returns
returns c = shl_exact {a = 1} 1 c.args.x 64 (omega arith) (omega (arith, c.requires)) ∙ omega arith
