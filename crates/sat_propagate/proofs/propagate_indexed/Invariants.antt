-- `sat_propagate::propagate_indexed` meets its contract. The loop's invariant: what was set are unit steps, the clauses wait for the rest of the queue only, and the counters
-- are those before the rest of the queue was set. Assumes nothing.
use Prim.Native.Nat.{◌-◌}
use mathlib.Core.Path.{◌≡◌}
use lib.ListN.{length}
use Rattle.cnf.specs.Clauses.{clauses_in}
use Rattle.pairs.specs.Triangles.{triangles}
use Rattle.sat_trail.specs.Rows.{Rows}
use Rattle.sat_passes.proofs.Attending as groups
use Rattle.sat_counters.specs.Earlier.{CountersBefore}
use Rattle.sat_propagate.proofs.propagate_indexed.Given as goal

abbrev pub invariant-queue : goal.invariant-queue
invariant-queue l =
    groups.Both (clauses_in l.list) (triangles l.n) l.initial.values l.initial.trail l.start l.values l.trail l.count l.at × Rows l.n l.values l.rows.joined l.rows.apart × CountersBefore l.list l.values l.trail l.at l.count l.counters × (length l.counters ≡ length l.initial.counters) × (length l.noted ≡ length l.initial.noted)

abbrev pub decreases-queue : goal.decreases-queue
decreases-queue l =
    length l.values - l.at
