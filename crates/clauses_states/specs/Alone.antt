-- What the clauses of the states alone are stated with. Only contracts of functions that write clauses cite it. Assumes nothing.
use Rattle.std.specs.Prelude.{true, false, List, [], ◌∷◌, ℕ, eqb}
use Rattle.pairs.specs.Triangles.{apart}
use Rattle.table_spec.specs.File.{Table}
use Rattle.table_spec.specs.Language.{byte_of, agreed_on}

-- group 1, for p below q
unfoldable pub look_clause : Table → ℕ → ℕ → List (List ℕ)
look_clause t p q = elim (eqb (agreed_on (byte_of t p)) (agreed_on (byte_of t q))) [ true ↦ [] | false ↦ (apart p q ∷ []) ∷ [] ]
