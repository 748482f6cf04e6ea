-- `table_find::first_at` meets its contract: the first record at the key stands between the two ends. Assumes nothing.
use Prim.Native.Nat.{◌-◌}
use Rattle.table_find.proofs.Spanning.{Halving}
use Rattle.table_find.proofs.first_at.Given as goal

abbrev pub invariant-halves : goal.invariant-halves
invariant-halves l = Halving l.width l.section l.wanted l.low l.high

abbrev pub decreases-halves : goal.decreases-halves
decreases-halves l = l.high - l.low
