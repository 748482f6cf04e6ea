-- `cases::long_at` meets its contract: two numbers of 32 bits. Assumes nothing.
use mathlib.Core.Path.{ap₂}
use Prim.Native.Nat.{ℕ, ◌+◌, ◌*◌}
use Rattle.cases.specs.Numbers.{long_at}
use Rattle.cases.proofs.long_at.Goals as goal

pub returns : goal.returns
unfolding long_at
returns c = ap₂ (λ (x y : ℕ). x + 4294967296 * y) c.double_at.ensures c.double_at-2.ensures
