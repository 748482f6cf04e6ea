-- The clauses of transitivity, by the number of states (document 01, "Pairs and clauses"). Assumes nothing.
use Rattle.std.specs.Prelude.{List, [], ◌∷◌, ℕ, ltb}
use Rattle.lists.specs.Lists.{filter, concat_map, upto}
use Rattle.cnf.specs.Clauses.{positive, negative}
use Rattle.pairs.specs.Pairs.{variable_of}

-- "{p,q} true", "{p,q} false", for two different states
abbrev pub together : ℕ → ℕ → ℕ
together p q = positive (variable_of p q)

abbrev pub apart : ℕ → ℕ → ℕ
apart p q = negative (variable_of p q)

-- the states past p
unfoldable pub past : ℕ → ℕ → List ℕ
past n p = filter (ltb p) (upto n)

-- "pq and qs give ps; pq and ps give qs; ps and qs give pq; literals in that order, premises false"
unfoldable pub triangle : ℕ → ℕ → ℕ → List (List ℕ)
triangle p q s =
    (apart p q ∷ apart q s ∷ together p s ∷ [])
    ∷ (apart p q ∷ apart p s ∷ together q s ∷ [])
    ∷ (apart p s ∷ apart q s ∷ together p q ∷ [])
    ∷ []

-- "For p < q < s ascending by p, then q, then s", of n states
unfoldable pub triangles : ℕ → List (List ℕ)
triangles n = concat_map (λ p. concat_map (λ q. concat_map (λ s. triangle p q s) (past n q)) (past n p)) (upto n)
