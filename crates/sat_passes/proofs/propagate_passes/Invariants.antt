-- `sat_passes::propagate_passes` meets its contract. The loop's invariant: what was set so far are unit steps, and group 2 waits for the queue only; each pass
-- but the last sets a variable. Assumes nothing.
use Prim.Native.Nat.{◌-◌}
use lib.ListN.{length}
use Rattle.cnf.specs.Clauses.{clauses_in}
use Rattle.pairs.specs.Triangles.{triangles}
use Rattle.sat_trail.specs.Rows.{Rows}
use Rattle.sat_passes.proofs.Passes as laws
use Rattle.sat_passes.proofs.propagate_passes.Given as goal

abbrev pub invariant-passes : goal.invariant-passes
invariant-passes l =
    laws.Settling (clauses_in l.list) (triangles l.n) l.initial.values l.initial.trail l.start l.values l.trail l.at l.count × Rows l.n l.values l.rows.joined l.rows.apart

abbrev pub decreases-passes : goal.decreases-passes
decreases-passes l =
    length l.values - l.count
