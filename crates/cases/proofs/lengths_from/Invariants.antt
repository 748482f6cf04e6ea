-- `cases::lengths_from`: the numbers from here on are still to be stored. Assumes nothing.
use Rattle.std.proofs.Common.{◌-◌}
use lib.ListN.{replicate}
use Rattle.lists.proofs.Copying.{Writing}
use Rattle.cases.specs.Numbers.{longs_in}
use Rattle.cases.proofs.lengths_from.Given as goal

abbrev pub invariant-lengths : goal.invariant-lengths
invariant-lengths l = Writing (longs_in 16 l.bytes) (replicate 16 0) l.lengths l.i
