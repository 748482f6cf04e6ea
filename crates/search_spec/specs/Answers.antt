-- The operation search: what is refused, the answer, and the answer bytes at exit (document 01, "The search" and "Refused calls").
-- Assumes nothing.
use Rattle.std.specs.Prelude.{Bool, true, false, ◌&&◌, Result, Ok, Err, List, [], ◌∷◌, ℕ, length, eqb, leb}
use Rattle.lists.specs.Lists.{all, over, first_failed, stage, Says}
use Rattle.limits.specs.declared.Limits.{Limits}
use Rattle.limits.specs.Limits.{limits_fit}
use Rattle.refusals.specs.declared.Refusal.{Refusal}
use Rattle.refusals.specs.declared.Refusal.TheVariants.{NoneExists, Spent, LimitsRange}
use Rattle.refusals.specs.Refusals.{refusal, number_in, one_value, values_in}
use Rattle.cnf.specs.Clauses.{clauses_in, whole, clause_fits}
use Rattle.cnf.specs.Search.{Outcome, solved, none_exists, spent, unfinished, search_from, made_of}
use Rattle.pairs.specs.Pairs.{pairs}

-- 11: "over 276 variables, a clause past the end, a variable past the count or twice in a clause"; most is the 276, or what the limits in force have
unfoldable pub list_fits : ℕ → List ℕ → ℕ → Bool
list_fits most list variables = leb variables most && whole list && all (clause_fits variables) (clauses_in list)

-- what is judged before the search, in order: 11, then 14: "fewer answer bytes than variables"
unfoldable pub search_number : ℕ → List ℕ → ℕ → List ℕ → ℕ
search_number most list variables answer = first_failed ((11, list_fits most list variables) ∷ (14, leb variables (length answer)) ∷ [])

-- the answer, and the answer bytes at exit
pub record Searched : Type 0 where
  pub solution : Result ℕ Refusal
  pub answer : List ℕ

-- "Solved writes 1 or 0 a variable; later bytes keep their content"; "12 none exists", "13 spent"
unfoldable pub searched : List ℕ → Outcome → Searched
searched answer (solved v k) = record { solution = Ok k; answer = over v answer }
searched answer (none_exists k) = record { solution = Err NoneExists; answer = answer }
searched answer (spent k) = record { solution = Err Spent; answer = answer }
searched answer unfinished = record { solution = Err Spent; answer = answer }

-- what a search over at most so many variables answers
unfoldable pub search_at : ℕ → List ℕ → ℕ → ℕ → List ℕ → Searched
search_at most list variables budget answer = elim (eqb (search_number most list variables answer) 0) [
  | true ↦ searched answer (search_from (clauses_in list) variables budget)
  | false ↦ record { solution = Err (refusal (search_number most list variables answer)); answer = answer }
]

-- the operation: 39, "a limit of zero or past its maximum comes first"; a variable for each pair of the states that the limits permit
unfoldable pub search_of : Limits → List ℕ → ℕ → ℕ → List ℕ → Searched
search_of L list variables budget answer = elim (limits_fit L) [
  | true ↦ search_at (pairs L.states) list variables budget answer
  | false ↦ record { solution = Err LimitsRange; answer = answer }
]

-- "12 none exists, where the search ends so by (a); 13 spent, where it ends by (d)"; or 0
unfoldable pub end_number : Outcome → ℕ
end_number (solved v k) = 0
end_number (none_exists k) = 12
end_number (spent k) = 13
end_number unfinished = 13

-- 39, 11, 14, then 12 or 13; or 0
unfoldable pub searching_number : Limits → List ℕ → ℕ → ℕ → List ℕ → ℕ
searching_number L list variables budget answer =
    first_failed
    ((39, limits_fit L)
    ∷ stage (search_number (pairs L.states) list variables answer)
    ∷ stage (end_number (search_from (clauses_in list) variables budget))
    ∷ [])

-- the answer by its number and its values
abbrev pub SearchSays : Limits → List ℕ → ℕ → ℕ → List ℕ → Result ℕ Refusal → Type 0
SearchSays L list variables budget answer r = Says (number_in r) (values_in one_value r) (searching_number L list variables budget answer) (made_of (search_from (clauses_in list) variables budget) ∷ [])
