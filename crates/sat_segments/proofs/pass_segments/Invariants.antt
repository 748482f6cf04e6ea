-- `sat_segments::pass_segments` meets its contract. The loop's invariant: every clause is settled, has a variable that was set, or stands in a segment of the set
-- that is still to come. Assumes nothing.
use mathlib.Core.Path.{◌≡◌}
use lib.ListN.{length}
use Rattle.sat_trail.specs.Rows.{Rows}
use Rattle.sat_segments.proofs.Scanning as laws
use Rattle.sat_segments.proofs.pass_segments.Given as goal

abbrev pub invariant-scan : goal.invariant-scan
invariant-scan l = laws.Scanning l.list l.starts l.set l.initial.values l.initial.trail l.start l.values l.trail l.count l.k × (length l.set ≡ 16) × Rows l.n l.values l.rows.joined l.rows.apart
