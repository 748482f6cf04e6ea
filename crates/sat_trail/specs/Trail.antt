-- The values inside the search, and the trail: the variables that are set, in the order in which they were set. What the functions inside the
-- search promise of them. Assumes nothing.
use Rattle.std.specs.Prelude.{◌≡◌, ◌≢◌, Bool, true, false, ℕ, ◌+◌, ◌/◌, ◌≤◌, ◌<◌, length, set, take}
use mathlib.Core.List.{List, [], ◌∷◌, ◌++◌, Memᴰ}
use Rattle.std.proofs.Math.Seq.{slice}
use Rattle.cnf.specs.Clauses.{value_of}
use Rattle.cnf.specs.Search.{broken}
use Rattle.cnf.specs.Closing.{Formed, Values, unset_count, Found, UnitSteps, AtRest, SettledOr, Waiting, Closed, breaks, rests, Closes}

-- the values with the listed variables unset
unfoldable pub unsetting : List ℕ → List ℕ → List ℕ
unsetting v [] = v
unsetting v (x ∷ xs) = set (unsetting v xs) x 2

-- clauses over the variables of v, of which count are set; the trail t has room for all
pub record Ready (cs : List (List ℕ)) (v t : List ℕ) (count : ℕ) : Type 0 where
  pub formed : Formed cs (length v)
  pub values : Values (length v) v
  pub counted : count + unset_count v ≡ length v
  pub room : length v ≤ length t

-- from the values v, with the trail's first count variables set, to w, with the trail s: further variables are set, and the trail has them
-- after the first ones
pub record Grown (v t : List ℕ) (count : ℕ) (w s : List ℕ) (more : ℕ) : Type 0 where
  pub long : length s ≡ length t
  pub new : List ℕ
  pub grows : take more s ≡ take count t ++ new
  pub back : unsetting w new ≡ v
  pub below : (x : ℕ) → Memᴰ x new → x < length v
  pub counted : more + unset_count w ≡ length w

-- unit steps from v to w, up to a broken clause or not; what they set is set
pub record Worked (cs : List (List ℕ)) (v t : List ℕ) (count : ℕ) (w s : List ℕ) (isBroken : Bool) (more : ℕ) : Type 0 where
  pub grown : Grown v t count w s more
  pub units : UnitSteps cs v w
  pub fresh : (x : ℕ) → Memᴰ x grown.new → value_of w x ≢ 2
  pub breaking : isBroken ≡ true → Found w cs broken

-- one pass over the clauses: each is settled, or one of its variables was set
pub record OnePass (cs : List (List ℕ)) (v t : List ℕ) (count : ℕ) (w s : List ℕ) (isBroken : Bool) (more : ℕ) : Type 0 where
  pub worked : Worked cs v t count w s isBroken more
  pub waiting : isBroken ≡ false → Waiting cs w worked.grown.new

-- the clauses that have the variable x are seen to: each is settled, or one of its variables was set meanwhile
pub record Attended (cs : List (List ℕ)) (x : ℕ) (v t : List ℕ) (count : ℕ) (w s : List ℕ) (isBroken : Bool) (more : ℕ) : Type 0 where
  pub worked : Worked cs v t count w s isBroken more
  pub settles : isBroken ≡ false → (c : List ℕ) → Memᴰ c cs → (l : ℕ) → Memᴰ l c → l / 2 ≡ x → SettledOr w worked.grown.new c

-- the queue is the trail from a place on: its variables are set, and a clause that is not settled has one of them
pub record Queue (cs : List (List ℕ)) (v t : List ℕ) (from count : ℕ) : Type 0 where
  pub inside : from ≤ count
  pub queued : (x : ℕ) → Memᴰ x (slice from count t) → (x < length v) × (value_of v x ≢ 2)
  pub waiting : Waiting cs v (slice from count t)

-- unit steps up to a broken clause, or to values at rest
pub record Drained (cs : List (List ℕ)) (v t : List ℕ) (count : ℕ) (w s : List ℕ) (isBroken : Bool) (more : ℕ) : Type 0 where
  pub worked : Worked cs v t count w s isBroken more
  pub at_rest : isBroken ≡ false → AtRest cs w

abbrev pub closed_by : Bool → List ℕ → Closed
closed_by true w = breaks
closed_by false w = rests w

-- the values are closed, by whatever means
pub record Settles (cs : List (List ℕ)) (v t : List ℕ) (count : ℕ) (w s : List ℕ) (isBroken : Bool) (more : ℕ) : Type 0 where
  pub grown : Grown v t count w s more
  pub values : Values (length v) w
  pub closes : Closes cs v (closed_by isBroken w)
