-- The map of an assignment (document 01, "Pairs and clauses"). Assumes nothing.
use Rattle.std.specs.Prelude.{Bool, List, [], ◌∷◌, ◌++◌, ℕ, zero, suc, get_or, eqb}
use Rattle.lists.specs.Lists.{filter, upto}
use Rattle.cnf.specs.Clauses.{value_of}
use Rattle.pairs.specs.Pairs.{variable_of}
use Rattle.table_spec.specs.Maps.{classes}

-- two different states are joined: "true means joined"
unfoldable pub joined_by : List ℕ → ℕ → ℕ → Bool
joined_by v q p = eqb (value_of v (variable_of p q)) 1

-- the class of the next state under the map of those before it: its first joined state's, or a new one
unfoldable pub next_class : List ℕ → List ℕ → ℕ
next_class m [] = classes m
next_class m (p ∷ ps) = get_or m p 0

-- "gives joined states one class and numbers the classes by first member, from 0": the map of the first n states
unfoldable pub map_of : List ℕ → ℕ → List ℕ
map_of v zero = []
map_of v (suc q) = map_of v q ++ (next_class (map_of v q) (filter (joined_by v q) (upto q)) ∷ [])
