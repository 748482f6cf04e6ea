-- `sat_segments::mark_clause` meets its contract. The loop's invariant: the literals passed are marked. Assumes nothing.
use Rattle.sat_segments.proofs.Cutting as laws
use Rattle.sat_segments.proofs.mark_clause.Given as goal

abbrev pub invariant-literals : goal.invariant-literals
invariant-literals l = laws.Noting l.literals l.k l.initial.masks l.masks l.literal-index
