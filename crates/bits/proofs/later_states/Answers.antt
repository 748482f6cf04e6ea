-- `bits::later_states` meets its contract: the lowest bit is there, so that it can be taken away. Assumes nothing.
use mathlib.Core.Path.{◌≡◌, ◌∙◌}
use mathlib.Core.Logic.{◌≢◌}
use Prim.Native.Nat.{ℕ, ◌*◌, ◌%◌, ◌^◌, ◌<◌}
use native.Mathlib.Omega.{arith}
use lib.Pow.{shl_exact}
use lib.Count.{count_trailing_zeros}
use Rattle.lists.proofs.Lowest.{LowestBit, trailing_lowest, bit_le}
use Rattle.bits.proofs.later_states.Goals as goal

lowest : (w : ℕ) → w < 2 ^ 64 → w ≢ 0 → (count_trailing_zeros 64 w < 64) × LowestBit w (count_trailing_zeros 64 w)
lowest w l n = trailing_lowest 64 w l n

power : (w : ℕ) → w < 2 ^ 64 → w ≢ 0 → 1 * 2 ^ count_trailing_zeros 64 w % 18446744073709551616 ≡ 2 ^ count_trailing_zeros 64 w
power w l n = shl_exact {a = 1} 1 (count_trailing_zeros 64 w) 64 (omega arith) (omega (arith, (lowest w l n).0)) ∙ omega arith

pub returns-then-word-eq0 : goal.returns-then-word-eq0
returns-then-word-eq0 c = omega (arith, c.if-word-eq0.true)

pub overflow_cast-result : goal.overflow_cast-result
overflow_cast-result c = record { fits = omega (arith, (lowest c.args.word c.ranges.word.fits c.if-word-eq0.false).0) }

pub overflow_shl-result : goal.overflow_shl-result
overflow_shl-result c = (lowest c.args.word c.ranges.word.fits c.if-word-eq0.false).0

pub overflow_sub-result : goal.overflow_sub-result
overflow_sub-result c =
    rw (power c.args.word c.ranges.word.fits c.if-word-eq0.false) (bit_le c.args.word (count_trailing_zeros 64 c.args.word) (lowest c.args.word c.ranges.word.fits c.if-word-eq0.false).1.own)

pub returns : goal.returns
returns c = rw (power c.args.word c.ranges.word.fits c.if-word-eq0.false)
