-- `sat_counters::count_literals` meets its contract. The loop's invariant: the clauses walked over have their counters. Assumes nothing.
use Rattle.sat_literal.specs.Walk.{clauses_rest}
use Rattle.sat_counters.proofs.Counting as laws
use Rattle.sat_counters.proofs.count_literals.Given as goal

abbrev pub invariant-clauses : goal.invariant-clauses
invariant-clauses l = laws.Tallying l.list l.values l.counters l.count (clauses_rest l.literals-iterator)
