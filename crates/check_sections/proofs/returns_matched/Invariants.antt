-- `check_sections::returns_matched` meets its contract: the states before this one match the returns. Assumes nothing.
use Rattle.check_sections.specs.Rooms.{Empty, state_matched}
use Rattle.table_spec.specs.File.{records}
use Rattle.lists.proofs.Upto.{Counting}
use Rattle.lists.specs.Lists.{all}
use lib.ListN.{length}
use Rattle.check_sections.proofs.returns_matched.Given as goal

abbrev pub invariant-states : goal.invariant-states
invariant-states l = Counting (all (state_matched 4 l.words (records 4 l.section) (length l.map) l.map)) (length l.map) l.q × Empty l.room
