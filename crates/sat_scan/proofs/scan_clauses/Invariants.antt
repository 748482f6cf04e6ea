-- `sat_scan::scan_clauses` meets its contract. Between clauses: what was set so far are unit steps, each clause passed is settled or has a variable that
-- was set, and it has a right literal or its place is put down. In a clause: what is seen of it is what is seen of the literals still to come, with the
-- unset literal met so far. Assumes nothing.
use Prim.Native.Nat.{◌+◌, ◌-◌}
use mathlib.Core.Path.{◌≡◌}
use mathlib.Core.Bool.{false}
use lib.ListN.{length}
use Rattle.sat_trail.specs.Rows.{Rows}
use Rattle.sat_literal.proofs.Literals as asking
use Rattle.sat_scan.proofs.Scanning as laws
use Rattle.sat_scan.proofs.scan_clauses.Given as goal

abbrev pub invariant-literals : goal.invariant-literals
invariant-literals l =
    asking.SeenSoFar l.list l.values (l.place + 1) l.at l.i l.unset l.last × (l.broken ≡ false) × (l.kept ≡ l.initial.kept) × (l.places ≡ l.initial.places)

abbrev pub decreases-literals : goal.decreases-literals
decreases-literals l =
    l.at - l.i

abbrev pub invariant-clauses : goal.invariant-clauses
invariant-clauses l =
    laws.Sifting l.list l.initial.values l.initial.trail l.start l.values l.trail l.places l.count l.kept l.at × (l.broken ≡ false) × Rows l.n l.values l.rows.joined l.rows.apart × (length l.places ≡ length l.initial.places)

abbrev pub decreases-clauses : goal.decreases-clauses
decreases-clauses l =
    length l.list - l.at
