-- `equality_propagate::drain` meets its contract. The loop's invariant: what was set are unit steps by group 2, which waits for the rest of the queue only. Assumes nothing.
use Prim.Native.Nat.{◌-◌}
use lib.ListN.{length}
use Rattle.sat_trail.specs.Rows.{Rows}
use Rattle.pairs.specs.Triangles.{triangles}
use Rattle.equality_propagate.proofs.Queueing as laws
use Rattle.equality_propagate.proofs.drain.Given as goal

abbrev pub invariant-queue : goal.invariant-queue
invariant-queue l =
    laws.Queueing (triangles l.n) l.initial.values l.initial.trail l.start l.values l.trail l.count l.at × Rows l.n l.values l.rows.joined l.rows.apart

abbrev pub decreases-queue : goal.decreases-queue
decreases-queue l =
    length l.values - l.at
