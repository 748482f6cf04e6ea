-- `sat_search::turns` meets its contract. The loop's invariant: whatever end the turns lead to from here, with the trial held, they lead to from the start; the counters are
-- those of the values before the last closing began, and are saved where a guess stands. The measure is twice the guesses left and the guesses that stand. Assumes nothing.
use Prim.Native.Nat.{◌+◌, ◌-◌, ◌*◌, ◌≤◌, ◌<◌}
use mathlib.Core.Path.{◌≡◌}
use lib.ListN.{length}
use Rattle.cnf.specs.Trials.{not_false}
use Rattle.sat_trail.specs.Conclusions.{with_triangles}
use Rattle.sat_trail.specs.Rows.{Rows}
use Rattle.sat_restore.specs.Restoring.{CountersBeforeIf}
use Rattle.sat_decide.proofs.Ends as laws
use Rattle.sat_search.proofs.Wording as wording
use Rattle.sat_search.proofs.turns.Given as goal

abbrev pub invariant-turns : goal.invariant-turns
invariant-turns l =
    laws.Turning (with_triangles l.list l.n) (length l.initial.values) l.budget (not_false l.initial.values) l.values l.trail l.levels l.at l.count l.depth l.made l.low × Rows l.n l.values l.rows.joined l.rows.apart × CountersBeforeIf l.list l.clauses l.values l.trail l.at l.count l.counters × wording.Marked l.levels l.depth l.at
    × (length l.list ≤ length l.clauses → 0 < l.depth → l.saved ≡ l.counters) × (length l.counters ≡ length l.initial.counters) × (length l.saved ≡ length l.initial.counters) × (length l.noted ≡ length l.initial.noted)

abbrev pub decreases-turns : goal.decreases-turns
decreases-turns l =
    2 * (l.budget - l.made) + l.depth
