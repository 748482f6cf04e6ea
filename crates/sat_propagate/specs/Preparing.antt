-- What the closing and the turns are lent beside the list: its index by literals and room for the counters of its clauses, or its index by segments. Assumes nothing.
use Rattle.std.specs.Prelude.{◌≡◌, Bool, true, List, ℕ, ◌≤◌, ◌<◌, length}
use Rattle.cnf.specs.Clauses.{whole}
use Rattle.sat_counters.specs.Counters.{CountersOf}
use Rattle.sat_propagate.specs.Indexed.{Room, CountersAtRest}
use Rattle.sat_restore.specs.Restoring.{IndexedIf}
use Rattle.sat_segments.specs.Segments.{Marked}

-- whole clauses, indexed by literals where there is room for each place, and by segments where there is not; room for their counters and to note as many as
-- there are places
pub record Prepared (ws firsts clauses starts masks counters noted : List ℕ) : Type 0 where
  pub all_there : whole ws ≡ true
  pub indexed : IndexedIf ws firsts clauses
  pub marked : length clauses < length ws → Marked ws starts masks
  pub room : Room clauses counters noted

-- where they are indexed, the counters are those of the values
abbrev pub CountersOfIf : List ℕ → List ℕ → List ℕ → List ℕ → Type 0
CountersOfIf ws clauses v counters = length ws ≤ length clauses → CountersOf ws v counters

-- where they are indexed, the counters are those of the values once these are closed and no clause is broken
abbrev pub CountersAtRestIf : List ℕ → List ℕ → List ℕ → List ℕ → Bool → Type 0
CountersAtRestIf ws clauses v counters isBroken = length ws ≤ length clauses → CountersAtRest ws v counters isBroken
