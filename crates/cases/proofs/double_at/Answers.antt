-- `cases::double_at` meets its contract: two words. Assumes nothing.
use mathlib.Core.Path.{ap₂}
use Prim.Native.Nat.{ℕ, ◌+◌, ◌*◌}
use Rattle.cases.specs.Numbers.{double_at}
use Rattle.cases.proofs.double_at.Goals as goal

pub returns : goal.returns
unfolding double_at
returns c = ap₂ (λ (x y : ℕ). x + 65536 * y) c.word_at.ensures.0 c.word_at-2.ensures.0
