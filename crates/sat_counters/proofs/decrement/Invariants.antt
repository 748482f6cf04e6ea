-- `sat_counters::decrement` meets its contract. The loop's invariant: the weight of the places ahead is still to be taken, and a clause after is noted where at most one
-- literal is left. Assumes nothing.
use mathlib.Core.Path.{◌≡◌}
use lib.ListN.{length}
use Rattle.sat_counters.proofs.Taking as laws
use Rattle.sat_counters.proofs.decrement.Given as goal

abbrev pub invariant-places : goal.invariant-places
invariant-places l = laws.Taking l.places l.l l.initial.counters l.counters l.place-index × laws.Noting l.places l.counters l.noted l.place-index l.count × (length l.noted ≡ length l.initial.noted)
