-- `sat_counters::weigh_clause` meets its contract. The loop's invariant: the weights of the literals ahead are still to be added. Assumes nothing.
use Rattle.sat_counters.proofs.Weighing as laws
use Rattle.sat_counters.proofs.weigh_clause.Given as goal

abbrev pub invariant-literals : goal.invariant-literals
invariant-literals l = laws.Weighing l.values l.literals l.sum l.literal-index
