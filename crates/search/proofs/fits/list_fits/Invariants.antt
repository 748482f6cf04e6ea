-- `search::fits::list_fits` meets its contract. The loop's invariant: whether the list fits is whether the words still to come do, and no mark is
-- that of a clause still to come. Assumes nothing.
use Prim.Native.Nat.{◌+◌, ◌-◌}
use lib.ListN.{length}
use Rattle.search.specs.Marks.{MarksBelow}
use Rattle.search.proofs.Fitting as laws
use Rattle.search.proofs.fits.list_fits.Given as goal

abbrev pub invariant-clauses : goal.invariant-clauses
invariant-clauses l = laws.Judging l.list l.variables l.at × MarksBelow l.marks (l.at + 1)

abbrev pub decreases-clauses : goal.decreases-clauses
decreases-clauses l = length l.list - l.at
