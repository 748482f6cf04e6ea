-- `cases::word_at` meets its contract: past the end, or two bytes. Assumes nothing.
use mathlib.Core.Path.{ap₂, ◌∙◌}
use Prim.Native.Nat.{ℕ, ◌+◌, ◌*◌}
use native.Mathlib.Omega.{arith}
use Rattle.cases.proofs.Numbers.{word-past, word-there}
use Rattle.cases.proofs.word_at.Goals as goal

pub returns-then-bytes-lt2 : goal.returns-then-bytes-lt2
returns-then-bytes-lt2 c = (word-past c.args.bytes.now c.args.at (omega arith), omega arith)

pub returns-then-bytes-at : goal.returns-then-bytes-at
returns-then-bytes-at c = (word-past c.args.bytes.now c.args.at (omega arith), omega arith)

pub returns : goal.returns
returns c = (ap₂ (λ (x y : ℕ). x + 256 * y) c.from.ensures c.from-2.ensures ∙ word-there c.args.bytes.now c.args.at (omega arith), omega arith)
