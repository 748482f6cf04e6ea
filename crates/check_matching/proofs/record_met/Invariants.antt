-- `check_matching::record_met` meets its contract: the states before this one match the return. Assumes nothing.
use Rattle.check_matching.specs.Matching.{record_matched}
use Rattle.table_spec.specs.File.{records}
use Rattle.lists.proofs.Upto.{Counting}
use Rattle.lists.specs.Lists.{all}
use lib.ListN.{length}
use Rattle.check_matching.proofs.record_met.Given as goal

abbrev pub invariant-states : goal.invariant-states
invariant-states l = Counting (all (record_matched l.width l.words (records l.width l.section) (length l.map) l.map l.fields)) (length l.map) l.q
