-- `sat_simplify::put_units` meets its contract. The loop's invariant: the clauses of the variables passed are put. Assumes nothing.
use Rattle.sat_simplify.proofs.Simplifying as laws
use Rattle.sat_simplify.proofs.put_units.Given as goal

abbrev pub invariant-variables : goal.invariant-variables
invariant-variables l = laws.Uniting l.values l.variables l.out l.at l.x-index
