-- What making the map of an assignment is stated with. Assumes nothing.
use Rattle.std.specs.Prelude.{◌≡◌, ◌≢◌, List, ℕ, ◌≤◌, ◌<◌, length, get_or, take}
use Rattle.cnf.specs.Clauses.{value_of}
use Rattle.limits.specs.Limits.{state_most}
use Rattle.pairs.specs.Pairs.{variable_of}
use Rattle.table_spec.specs.Maps.{classes}
use Rattle.clauses_spec.specs.Maps.{map_of}
use Rattle.reduce_map.specs.declared.Classes.{Classes}

-- l is the lowest state joined to q by a variable below x, or q itself
pub record LowestPartner (v : List ℕ) (x q l : ℕ) : Type 0 where
  pub within : l ≤ q
  pub earlier : l ≢ q → variable_of l q < x
  pub joined : l ≢ q → value_of v (variable_of l q) ≡ 1
  pub least : (p : ℕ) → p < l → variable_of p q < x → value_of v (variable_of p q) ≢ 1

-- the same of every state
pub record LowestJoined (v : List ℕ) (x : ℕ) (low : List ℕ) : Type 0 where
  pub long : length low ≡ state_most
  pub each : (q : ℕ) → q < state_most → LowestPartner v x q (get_or low q 0)

-- "The map of an assignment", and its class count
pub record MapOf (v : List ℕ) (n : ℕ) (r : Classes) : Type 0 where
  pub long : length r.map ≡ state_most
  pub map : take n r.map ≡ map_of v n
  pub count : r.count ≡ classes (map_of v n)
