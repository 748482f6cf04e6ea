-- `sat_trial::trial_holds` meets its contract. The loop's invariant: whether every clause holds is whether those still to come do. Assumes nothing.
use Rattle.std.proofs.Common.{◌≡◌, true, length}
use Rattle.cnf.specs.Clauses.{clauses_in, whole}
use Rattle.cnf.specs.Closing.{Formed}
use Rattle.cnf.specs.Trials.{only_true, satisfied}
use Rattle.sat_literal.specs.Walk.{clauses_rest}
use Rattle.sat_trial.proofs.trial_holds.Given as goal

abbrev pub invariant-clauses : goal.invariant-clauses
invariant-clauses l = record {
  all_there : whole (clauses_rest l.literals-iterator) ≡ true;
  formed : Formed (clauses_in (clauses_rest l.literals-iterator)) (length l.values);
  left : satisfied (clauses_in l.list) (only_true l.values) ≡ satisfied (clauses_in (clauses_rest l.literals-iterator)) (only_true l.values);
}
