-- `search::fits::clause_fits` meets its contract. The loop's invariant: the literals passed have variables below the count, each once, and these
-- variables have the mark. Assumes nothing.
use Rattle.search.proofs.Fitting as laws
use Rattle.search.proofs.fits.clause_fits.Given as goal

abbrev pub invariant-literals : goal.invariant-literals
invariant-literals l = laws.Fitting l.literals l.variables l.i × laws.Marked l.literals l.marks l.mark l.i
