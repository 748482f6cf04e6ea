-- `sat_simplify::simplify` meets its contract. The loop's invariant: what is left of the clauses at the places passed is put. Assumes nothing.
use Rattle.sat_simplify.proofs.Simplifying as laws
use Rattle.sat_simplify.proofs.simplify.Given as goal

abbrev pub invariant-places : goal.invariant-places
invariant-places l = laws.Lightening l.list l.values l.variables l.places l.out l.at l.place-index
