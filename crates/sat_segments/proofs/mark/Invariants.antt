-- `sat_segments::mark` meets its contract. The loops' invariant: the segments before this one are whole, and every clause passed is marked. Assumes nothing.
use mathlib.Core.Path.{◌≡◌}
use Prim.Native.Nat.{◌-◌, ◌≤◌}
use lib.ListN.{length, get_or}
use Rattle.sat_segments.proofs.Cutting as laws
use Rattle.sat_segments.proofs.mark.Given as goal

abbrev pub invariant-clauses : goal.invariant-clauses
invariant-clauses l = laws.Marking l.list l.starts l.masks l.k l.at

abbrev pub decreases-clauses : goal.decreases-clauses
decreases-clauses l = length l.list - l.at

abbrev pub invariant-segments : goal.invariant-segments
invariant-segments l = laws.Marking l.list l.starts l.masks l.k l.at × (get_or l.starts l.k 0 ≡ l.at) × (l.k ≤ 1024) × (1024 ≤ l.k → length l.list ≤ l.at)
