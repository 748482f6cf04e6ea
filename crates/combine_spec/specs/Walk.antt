-- The records of the pairs in the order of the file, as a loop makes them: after each key, in ascending order, the targets of the two, pair by pair.
-- Assumes nothing.
use Rattle.std.specs.Prelude.{List, [], ◌∷◌, ◌++◌, map, ℕ}
use Rattle.lists.specs.Lists.{concat_map, upto}
use Rattle.table_spec.specs.Language.{targets}
use Rattle.combine_spec.specs.Combine.{renumbered, pair_of, first_of, second_of}

-- the last bytes: a target of the first with each of the second
unfoldable pub pair_targets : ℕ → List ℕ → List ℕ → List (List ℕ)
pair_targets m ps qs = concat_map (λ p. map (λ q. pair_of m p q ∷ []) qs) ps

-- what stands after a key: for each further byte of it the numbers below a bound, then the targets of the firsts and of the seconds of the whole key
unfoldable pub walk : ℕ → List (List ℕ) → List (List ℕ) → List ℕ → List ℕ → List (List ℕ)
walk m rs ss [] key = pair_targets m (targets rs (renumbered (first_of m) key)) (targets ss (renumbered (second_of m) key))
walk m rs ss (c ∷ cs) key = concat_map (λ x. map (λ r. x ∷ r) (walk m rs ss cs (key ++ (x ∷ [])))) (upto c)

-- all records of a section: n pairs and k symbols
abbrev pub walk_moves : ℕ → ℕ → ℕ → List (List ℕ) → List (List ℕ) → List (List ℕ)
walk_moves m n k rs ss = walk m rs ss (n ∷ k ∷ []) []

abbrev pub walk_returns : ℕ → ℕ → ℕ → List (List ℕ) → List (List ℕ) → List (List ℕ)
walk_returns m n k rs ss = walk m rs ss (n ∷ k ∷ n ∷ []) []
