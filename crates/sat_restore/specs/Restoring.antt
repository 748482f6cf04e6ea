-- The counters of the clauses, where a guess is undone. Assumes nothing.
use Rattle.std.specs.Prelude.{◌≡◌, List, ℕ, ◌+◌, ◌≤◌, ◌<◌, length, get_or}
use Rattle.cnf.specs.Clauses.{clauses_in}
use Rattle.cnf.specs.Closing.{unset_count}
use Rattle.sat_trail.specs.Trail.{Ready}
use Rattle.sat_counters.specs.Counters.{Indexed}
use Rattle.sat_counters.specs.Earlier.{earlier, CountersBefore}

-- the clauses are indexed where there is room for each place
abbrev pub IndexedIf : List ℕ → List ℕ → List ℕ → Type 0
IndexedIf ws firsts clauses = length ws ≤ length clauses → Indexed ws firsts clauses

-- room for the clauses' counters
pub record Sized (clauses counters : List ℕ) : Type 0 where
  pub few : length clauses ≤ 32768
  pub small : length counters ≤ 32768

-- where the list is indexed, the counters are those of the values before the trail's variables from a place on were set
abbrev pub CountersBeforeIf : List ℕ → List ℕ → List ℕ → List ℕ → ℕ → ℕ → List ℕ → Type 0
CountersBeforeIf ws clauses v t from count counters = length ws ≤ length clauses → CountersBefore ws v t from count counters

-- the trail has count variables, all of them set; a place at or before base on it, with as many set before it as it says
pub record TrailMark (ws v t : List ℕ) (mark base count : ℕ) : Type 0 where
  pub ready : Ready (clauses_in ws) v t count
  pub most : length v ≤ 780
  pub below : (i : ℕ) → i < count → get_or t i 0 < length v
  pub before : mark ≤ base
  pub inside : base ≤ count
  pub counted : mark + unset_count (earlier v t mark count) ≡ length v
