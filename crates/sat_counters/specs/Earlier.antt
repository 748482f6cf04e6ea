-- The counters of the clauses while variables of the trail are still to be seen to. Assumes nothing.
use Rattle.std.specs.Prelude.{◌≡◌, List, ℕ, ◌+◌, length}
use Rattle.std.proofs.Math.Seq.{slice}
use Rattle.cnf.specs.Closing.{unset_count}
use Rattle.sat_trail.specs.Trail.{unsetting}
use Rattle.sat_counters.specs.Counters.{CountersOf}

-- the values before the trail's variables from a place on were set
abbrev pub earlier : List ℕ → List ℕ → ℕ → ℕ → List ℕ
earlier v t from count = unsetting v (slice from count t)

-- the counters are those of these values, in which as many variables are set as the trail has before the place
pub record CountersBefore (ws v t : List ℕ) (from count : ℕ) (counters : List ℕ) : Type 0 where
  pub tallied : CountersOf ws (earlier v t from count) counters
  pub counted : from + unset_count (earlier v t from count) ≡ length v
