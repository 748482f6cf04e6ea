-- `sat_simplify::put_set` meets its contract. The loop's invariant: the clauses of the variables below x that are set are put. Assumes nothing.
use Rattle.sat_simplify.proofs.Simplifying as laws
use Rattle.sat_simplify.proofs.put_set.Given as goal

abbrev pub invariant-variables : goal.invariant-variables
invariant-variables l = laws.Setting l.values l.out l.at l.x
