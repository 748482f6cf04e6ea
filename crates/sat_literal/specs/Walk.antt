-- A walk over the clauses of a list. Assumes nothing.
use Rattle.std.specs.Prelude.{◌≡◌, List, ◌∷◌, ◌++◌, ℕ, Option, length, MatchOption}
use denote.Ref.{Bor}
use Rattle.sat_literal.specs.declared.clauses.Clauses.{Clauses}

-- the words of the clauses that are still to come
abbrev pub clauses_rest : Clauses → List ℕ
clauses_rest s = s.rest.now

-- a step takes the first clause, its count and its literals
abbrev pub clauses_steps : Clauses → Option (Bor (List ℕ)) → Clauses → Type 0
clauses_steps s r t = MatchOption r ((length (clauses_rest s) ≡ 0) × (t ≡ s)) (λ x. clauses_rest s ≡ length x.now ∷ (x.now ++ clauses_rest t))
