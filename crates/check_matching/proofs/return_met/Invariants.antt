-- `check_matching::return_met` meets its contract: the stack states before this one match the return. Assumes nothing.
use Rattle.check_spec.specs.Check.{return_matched}
use lib.ListN.{length, get_or}
use Rattle.table_spec.specs.File.{records}
use Rattle.lists.proofs.Upto.{Counting}
use Rattle.lists.specs.Lists.{all}
use Rattle.check_matching.proofs.return_met.Given as goal

abbrev pub invariant-states : goal.invariant-states
invariant-states l = Counting (all (λ r. return_matched l.words (records 4 l.section) l.map (get_or l.fields 0 0) (get_or l.fields 1 0) (get_or l.fields 2 0) (get_or l.fields 3 0) l.q r)) (length l.map) l.u
