-- `records_fates::mark_section` meets its contract: the marks of the classes passed are written. Assumes nothing.
use Rattle.table_spec.specs.Maps.{classes}
use Rattle.records_fates.proofs.Passing.{Telling}
use Rattle.records_fates.proofs.mark_section.Given as goal

abbrev pub invariant-classes : goal.invariant-classes
invariant-classes l = Telling l.width l.section l.words l.map l.first l.room l.initial.out l.out l.class l.stamp
