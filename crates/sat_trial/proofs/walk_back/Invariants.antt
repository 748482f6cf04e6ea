-- `sat_trial::walk_back` meets its contract. The loop's invariant: from here the walk back finds what it finds from its start. Assumes nothing.
use Rattle.cnf.specs.Clauses.{clauses_in}
use Rattle.sat_trail.specs.Rows.{Rows}
use Rattle.sat_trial.proofs.Retracing as laws
use Rattle.sat_trial.proofs.walk_back.Given as goal

abbrev pub invariant-guesses : goal.invariant-guesses
invariant-guesses l =
    laws.Retracing (clauses_in l.list) l.levels l.initial.values l.trail l.guesses l.start l.values l.depth l.count × Rows l.n l.values l.rows.joined l.rows.apart

abbrev pub decreases-guesses : goal.decreases-guesses
decreases-guesses l = l.depth
