-- `sat_backtrack::backtrack` meets its contract: the counters go back where the list is indexed, and the values always. Assumes nothing.
use Rattle.std.proofs.Common.{arith}
use Rattle.sat_backtrack.proofs.Backtracking.{behind_undone}
use Rattle.sat_backtrack.proofs.backtrack.Goals as goal
use Rattle.sat_backtrack.proofs.backtrack.Goals.{then-list-clauses, else-list-clauses}

pub restore-requires : goal.restore-requires
restore-requires c =
    record { indexed = (c.requires.indexed_if.0 c.if-list-clauses.true, c.requires.indexed_if.1, c.requires.indexed_if.2); trail_mark = (c.requires.trail_mark.0, c.requires.trail_mark.1 c.if-list-clauses.true) }

pub returns-clause-back : goal.returns-clause-back
returns-clause-back c = elim c.if-list-clauses.branch [
  | then-list-clauses w ↦
      rw (w.counters-is, w.saved-is) (record {
        lags = λ _. behind_undone c.requires.pair_table.1.inside c.requires.pair_table.1.room c.undo-variable.ensures.0 w.restore.ensures.0;
        kept = λ _. w.restore.ensures.1;
      })
  | else-list-clauses w ↦ record { lags = λ h. absurd (omega (arith, h, w.if-list-clauses.false)); kept = λ h. absurd (omega (arith, h, w.if-list-clauses.false)) }
]
