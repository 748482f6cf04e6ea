-- `sat_segments::propagate_segments` meets its contract. The loop's invariant: what was set so far are unit steps, and every clause waits for the queue only; each pass
-- but the last sets a variable. Assumes nothing.
use Prim.Native.Nat.{◌-◌}
use lib.ListN.{length}
use lib.Seq.{slice}
use Rattle.cnf.specs.Clauses.{clauses_in}
use Rattle.cnf.specs.Closing.{Waiting}
use Rattle.pairs.specs.Triangles.{triangles}
use Rattle.sat_trail.specs.Rows.{Rows}
use Rattle.sat_passes.proofs.Passes as passing
use Rattle.sat_segments.proofs.propagate_segments.Given as goal

abbrev pub invariant-passes : goal.invariant-passes
invariant-passes l = passing.Settling (clauses_in l.list) (triangles l.n) l.initial.values l.initial.trail l.start l.values l.trail l.at l.count × Waiting (clauses_in l.list) l.values (slice l.at l.count l.trail) × Rows l.n l.values l.rows.joined l.rows.apart

abbrev pub decreases-passes : goal.decreases-passes
decreases-passes l = length l.values - l.count
