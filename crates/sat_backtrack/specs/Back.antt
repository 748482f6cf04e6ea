-- The counters of the clauses, once a guess is undone. Assumes nothing.
use Rattle.std.specs.Prelude.{◌≡◌, List, ℕ, ◌+◌, ◌≤◌, length}
use Rattle.sat_restore.specs.Restoring.{CountersBeforeIf}

-- the counters are those before the guess at mark, and saved
pub record Back (ws clauses v t : List ℕ) (mark : ℕ) (counters saved : List ℕ) : Type 0 where
  pub lags : CountersBeforeIf ws clauses v t mark (mark + 1) counters
  pub kept : length ws ≤ length clauses → saved ≡ counters
