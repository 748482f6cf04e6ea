-- The turns of the search: what the functions around the closing of the values promise. Assumes nothing.
use Rattle.std.specs.Prelude.{◌≡◌, ◌≢◌, true, ℕ, ◌+◌, ◌≤◌, ◌<◌, length, take, replicate}
use mathlib.Core.List.{List, Memᴰ}
use Rattle.std.proofs.Math.Option.{some}
use Rattle.cnf.specs.Clauses.{value_of, clauses_in, whole}
use Rattle.cnf.specs.Search.{Outcome, solved, none_exists, spent}
use Rattle.cnf.specs.Trials.{Tried}
use Rattle.cnf.specs.Closing.{Formed, unset_count, ◌⊑◌, AtRest, rests, Closes}
use Rattle.pairs.specs.Pairs.{pairs}
use Rattle.pairs.specs.Triangles.{triangles}
use Rattle.sat_trail.specs.Trail.{Ready, Queue}
use Rattle.sat_trail.specs.Conclusions.{with_triangles}
use Rattle.sat_decide.specs.declared.Ending.{Ending}
use Rattle.sat_decide.specs.declared.Ending.TheVariants.{Found, Absent, Spent}
use Rattle.sat_decide.specs.declared.Due.{Due}
use Rattle.sat_decide.specs.declared.Due.TheVariants as due

-- r is the first unset variable from low on, or the number of variables
pub record NextUnset (v : List ℕ) (low r : ℕ) : Type 0 where
  pub from : low ≤ r
  pub to : r ≤ length v
  pub passed : (j : ℕ) → low ≤ j → j < r → value_of v j ≢ 2
  pub found : r < length v → value_of v r ≡ 2

-- variable is the lowest unset one from low on
pub record LowestUnset (v : List ℕ) (low variable : ℕ) : Type 0 where
  pub first : NextUnset v low variable
  pub inside : variable < length v

-- some variable from low on is unset
pub record SomeUnset (v : List ℕ) (low : ℕ) : Type 0 where
  pub variable : ℕ
  pub lowest : LowestUnset v low variable

-- what is due at rest after made guesses: none from low on is unset, the budget is spent, or the lowest unset variable is guessed
abbrev pub DueAt : List ℕ → ℕ → ℕ → ℕ → Due → Type 0
DueAt v low made budget due.Solved = NextUnset v low (length v)
DueAt v low made budget due.Spent = SomeUnset v low × (made ≡ budget)
DueAt v low made budget (due.Guess x) = LowestUnset v low x × (made ≢ budget)

-- the values of 780 variables, none of which is set
unfoldable pub none_set : List ℕ
none_set = replicate 780 2

-- whole clauses over at most 780 variables, none of which is set; where there are n states, the variables are their pairs
pub record Fresh (ws : List ℕ) (n : ℕ) (v : List ℕ) : Type 0 where
  pub all_there : whole ws ≡ true
  pub formed : Formed (clauses_in ws) (length v)
  pub none-set : v ≡ replicate (length v) 2
  pub most : length v ≤ 780
  pub few : n ≤ 40
  pub size : 0 < n → length v ≡ pairs n

-- clauses over at most 780 variables; the trail's first count variables are set, as they are wherever the clauses are at rest, and group 2 waits for them
pub record Begun (ws : List ℕ) (n : ℕ) (v t : List ℕ) (count : ℕ) : Type 0 where
  pub all_there : whole ws ≡ true
  pub ready : Ready (with_triangles ws n) v t count
  pub queue : Queue (triangles n) v t 0 count
  pub most : length v ≤ 780
  pub long : length t ≡ 780
  pub below : (x : ℕ) → Memᴰ x (take count t) → x < length v
  pub low : (u : List ℕ) → AtRest (with_triangles ws n) u → v ⊑ u

-- the first closing is done: the values of n variables are the least at rest, and the trail has the count variables that are set
pub record Rested (cs : List (List ℕ)) (n : ℕ) (v t : List ℕ) (count : ℕ) : Type 0 where
  pub formed : Formed cs n
  pub size : length v ≡ n
  pub most : n ≤ 780
  pub long : length t ≡ 780
  pub counted : count + unset_count v ≡ length v
  pub below : (x : ℕ) → Memᴰ x (take count t) → x < n
  pub closed : Closes cs (replicate n 2) (rests v)

-- the end e of the search and its trials, with the values w that are left: what was found, or the trial that is held; u is the ceiling
abbrev pub EndsWith : Tried → Ending → List ℕ → ℕ → Type 0
EndsWith e (Found k) w u = e ≡ record { outcome = solved w k; trials = record { held = w; ceiling = some u } }
EndsWith e (Absent k) w u = e.outcome ≡ none_exists k
EndsWith e (Spent k) w u = e ≡ record { outcome = spent k; trials = record { held = w; ceiling = some u } }

-- its outcome
abbrev pub outcome_of : Ending → List ℕ → Outcome
outcome_of (Found k) v = solved v k
outcome_of (Absent k) v = none_exists k
outcome_of (Spent k) v = spent k
