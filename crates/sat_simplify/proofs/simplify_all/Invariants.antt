-- `sat_simplify::simplify_all` meets its contract. The loop's invariant: what is left of the clauses before `start` is put. Assumes nothing.
use Prim.Native.Nat.{◌-◌}
use lib.ListN.{length}
use Rattle.sat_simplify.specs.Simplify.{variables_set}
use Rattle.sat_simplify.proofs.Simplifying as laws
use Rattle.sat_simplify.proofs.simplify_all.Given as goal

abbrev pub invariant-clauses : goal.invariant-clauses
invariant-clauses l = laws.Walked l.list l.values (variables_set l.values) l.out l.at l.start

abbrev pub decreases-clauses : goal.decreases-clauses
decreases-clauses l = length l.list - l.start
