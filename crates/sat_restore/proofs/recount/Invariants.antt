-- `sat_restore::recount` meets its contract. The loop's invariant: the counters are those before the trail's variables from i on were set. Assumes nothing.
use Prim.Native.Nat.{◌≤◌}
use mathlib.Core.Path.{◌≡◌}
use lib.ListN.{length}
use Rattle.sat_counters.specs.Earlier.{CountersBefore}
use Rattle.sat_restore.proofs.recount.Given as goal

abbrev pub invariant-trail : goal.invariant-trail
invariant-trail l = CountersBefore l.list l.values l.trail l.i l.count l.counters × (l.mark ≤ l.i) × (l.i ≤ l.base) × (length l.counters ≡ length l.initial.counters)
