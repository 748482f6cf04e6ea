-- `records_fates::mark_class` meets its contract: the marks of the class are written so far, and its images are stamped. Assumes nothing.
use Rattle.records_fates.proofs.Passing.{Going}
use Prim.Native.Nat.{◌-◌}
use Rattle.records_fates.specs.Marks.{records_in}
use Rattle.records_fates.proofs.mark_class.Given as goal

abbrev pub invariant-records : goal.invariant-records
invariant-records l = Going l.width l.section l.words l.map l.class l.stamp l.room l.initial.out l.out l.i

abbrev pub decreases-records : goal.decreases-records
decreases-records l = records_in l.width l.section - l.i
