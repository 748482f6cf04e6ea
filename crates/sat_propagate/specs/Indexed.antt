-- The counters of the clauses while the queue is seen to. Assumes nothing.
use Rattle.std.specs.Prelude.{◌≡◌, Bool, false, List, ℕ, ◌≤◌, length}
use Rattle.sat_counters.specs.Counters.{CountersOf}

-- room for the counters, and to note as many clauses as there are places
pub record Room (clauses counters noted : List ℕ) : Type 0 where
  pub few : length counters ≤ 32768
  pub noted-room : length clauses ≤ length noted
  pub short : length noted ≤ 32768

-- where no clause is broken the counters are those of the values
abbrev pub CountersAtRest : List ℕ → List ℕ → List ℕ → Bool → Type 0
CountersAtRest ws v counters isBroken = isBroken ≡ false → CountersOf ws v counters
