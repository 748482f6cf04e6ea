-- `sat_counters::increment` meets its contract. The loop's invariant: the weight of the places ahead is still to be given back. Assumes nothing.
use Rattle.sat_counters.proofs.Taking as laws
use Rattle.sat_counters.proofs.increment.Given as goal

abbrev pub invariant-places : goal.invariant-places
invariant-places l = laws.Giving l.places l.l l.initial.counters l.counters l.place-index
