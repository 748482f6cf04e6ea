-- `records_fates::ends_of` meets its contract: the ends among the records passed. Assumes nothing.
use Rattle.records_fates.specs.Marks.{records_in}
use Rattle.records_fates.proofs.Spans.{Ending}
use Rattle.records_fates.proofs.ends_of.Given as goal

abbrev pub invariant-records : goal.invariant-records
invariant-records l = Ending l.width l.section l.ends l.i
