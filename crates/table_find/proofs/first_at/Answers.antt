-- `table_find::first_at` meets its contract: the first record at the key stands between the two ends. Assumes nothing.
use native.Mathlib.Omega.{arith}
use Rattle.table_find.proofs.Spanning.{halving, upper_half, lower_half}
use Rattle.table_find.proofs.first_at.Goals as goal

pub halves-init : goal.halves-init
halves-init c = halving _ _

pub halves-preserved-then-even_at-lowest : goal.halves-preserved-then-even_at-lowest
halves-preserved-then-even_at-lowest c =
    upper_half (λ i. (c.shared_slice_known-1.given i).fits) c.halves.invariant (omega arith) (omega (arith, c.halves-test.true)) c.even_at.ensures c.lowest_at-lowest.ensures c.if-even_at-lowest.true

pub halves-preserved : goal.halves-preserved
halves-preserved c =
    lower_half (λ i. (c.shared_slice_known-1.given i).fits) c.halves.invariant (omega arith) (omega (arith, c.halves-test.true)) c.even_at.ensures c.lowest_at-lowest.ensures c.if-even_at-lowest.false
