-- The clause list of a table, its five groups in their order (document 01, "Pairs and clauses"). Assumes nothing.
use Rattle.std.specs.Prelude.{true, false, ◌&&◌, Result, Ok, Err, List, [], ◌∷◌, ◌++◌, map, ℕ, ◌+◌, ◌-◌, ◌%◌, length, get_or, eqb, leb}
use Rattle.lists.specs.Lists.{any, filter, concat_map, upto, mem, over, first_failed, stage, Says}
use Rattle.lists.specs.Bits.{has}
use Rattle.cnf.specs.Clauses.{words_of}
use Rattle.limits.specs.declared.Limits.{Limits}
use Rattle.refusals.specs.declared.Refusal.{Refusal}
use Rattle.refusals.specs.Refusals.{refusal, number_in, values_in}
use Rattle.pairs.specs.Triangles.{together, apart, triangles}
use Rattle.table_spec.specs.File.{Table, table_of}
use Rattle.table_spec.specs.Reading.{read_number}
use Rattle.table_spec.specs.Language.{count, byte_of, agreed_on, targets}
use Rattle.tops_spec.specs.Tops.{top_words, live_returns}
use Rattle.clauses_spec.specs.declared.Listed.{Listed}

-- the same variable the other way
unfoldable pub opposite : ℕ → ℕ
opposite l = elim (eqb (l % 2) 0) [ true ↦ l + 1 | false ↦ l - 1 ]

-- "A repeated literal is written once, at its first place": what of ls is not among the literals before
unfoldable pub once : List ℕ → List ℕ → List ℕ
once before [] = []
once before (l ∷ ls) = elim (mem l before) [ true ↦ once before ls | false ↦ l ∷ once (l ∷ before) ls ]

-- "A clause with a variable both ways is left out."
unfoldable pub tidy : List ℕ → List (List ℕ)
tidy ls = elim (any (λ l. mem (opposite l) ls) ls) [ true ↦ [] | false ↦ once [] ls ∷ [] ]

-- 1. 'By ascending variable: "false" where exactly one state is accepting.' Request (v): or where their marks differ
unfoldable pub look_clauses : Table → List (List ℕ)
look_clauses t = concat_map (λ q. concat_map (λ p. elim (eqb (agreed_on (byte_of t p)) (agreed_on (byte_of t q))) [ true ↦ [] | false ↦ (apart p q ∷ []) ∷ [] ]) (upto q)) (upto (count t))

-- 2. "For p < q < s ascending by p, then q, then s"
unfoldable pub transitivity : Table → List (List ℕ)
transitivity t = triangles (count t)

-- "{p,q} false unless p = q": "Pair {p,p} counts as true"
unfoldable pub premise : ℕ → ℕ → List ℕ
premise p q = elim (eqb p q) [ true ↦ [] | false ↦ apart p q ∷ [] ]

-- the premises, "then {p',q'} true for each" q' in order. "Left out if some q' = p'."
unfoldable pub matching : List ℕ → ℕ → List ℕ → List (List ℕ)
matching premises p' qs = elim (mem p' qs) [ true ↦ [] | false ↦ tidy (premises ++ map (together p') qs) ]

-- the clause of a record (p, a, p') and a state q
unfoldable pub move_clause : List (List ℕ) → ℕ → ℕ → ℕ → ℕ → List (List ℕ)
move_clause rs p a p' q = elim (eqb q p) [ true ↦ [] | false ↦ matching (premise p q) p' (targets rs (q ∷ a ∷ [])) ]

-- 3. "For each internal record (p, a, p') in file order and each q other than p ascending"; 4. "The same for calls."
unfoldable pub move_clauses : List (List ℕ) → ℕ → List (List ℕ)
move_clauses rs n = concat_map (λ r. concat_map (λ q. move_clause rs (get_or r 0 0) (get_or r 1 0) (get_or r 2 0) q) (upto n)) rs

-- the clause of a return (p, r, s, p'), a state q and a top u of q: "except q = p with u = s"
unfoldable pub return_clause : List (List ℕ) → ℕ → ℕ → ℕ → ℕ → ℕ → ℕ → List (List ℕ)
return_clause rs p r s p' q u = elim (eqb q p && eqb u s) [ true ↦ [] | false ↦ matching (premise p q ++ premise s u) p' (targets rs (q ∷ r ∷ u ∷ [])) ]

-- "each state u in tops(q) ascending"
unfoldable pub top_states : List ℕ → ℕ → ℕ → List ℕ
top_states f n q = filter (has f q) (upto n)

-- 5. "For each live return (p, r, s, p') in order, each q ascending, each state u in tops(q) ascending"
unfoldable pub return_clauses : Table → List (List ℕ)
return_clauses t =
    concat_map (λ r. concat_map (λ q. concat_map (λ u.
    return_clause t.returns (get_or r 0 0) (get_or r 1 0) (get_or r 2 0) (get_or r 3 0) q u)
    (top_states (top_words t) (count t) q)) (upto (count t))) (live_returns t)

-- "The list, in this order"
unfoldable pub clause_list : Table → List (List ℕ)
clause_list t = look_clauses t ++ transitivity t ++ move_clauses t.internals (count t) ++ move_clauses t.calls (count t) ++ return_clauses t

unfoldable pub clause_words : Table → List ℕ
clause_words t = words_of (clause_list t)

-- the list that reduce writes, without group 2 (document 02, request (ii): "Reduce shall leave that group out")
unfoldable pub short_list : Table → List (List ℕ)
short_list t = look_clauses t ++ move_clauses t.internals (count t) ++ move_clauses t.calls (count t) ++ return_clauses t

unfoldable pub short_words : Table → List ℕ
short_words t = words_of (short_list t)

-- 39, 1 to 8, then 10: "list longer than the buffer"; or 0
unfoldable pub clauses_number : Limits → List ℕ → List ℕ → ℕ
clauses_number L b list = first_failed (stage (read_number L b) ∷ (10, leb (length (clause_words (table_of b))) (length list)) ∷ [])

-- the answer, and the clause buffer at exit
pub record ClausesDone : Type 0 where
  pub answer : Result Listed Refusal
  pub list : List ℕ

-- the operation: "The answer is the clause count and the word count; later words keep their content."
unfoldable pub clauses_of : Limits → List ℕ → List ℕ → ClausesDone
clauses_of L b list = elim (eqb (clauses_number L b list) 0) [
  | true ↦ record { answer = Ok (record { clauses = length (clause_list (table_of b)); words = length (clause_words (table_of b)) }); list = over (clause_words (table_of b)) list }
  | false ↦ record { answer = Err (refusal (clauses_number L b list)); list = list }
]

-- its values
abbrev pub listed_values : Listed → List ℕ
listed_values r = r.clauses ∷ r.words ∷ []

-- the answer by its number and its values
abbrev pub ClausesSays : Limits → List ℕ → List ℕ → Result Listed Refusal → Type 0
ClausesSays L b list r = Says (number_in r) (values_in listed_values r) (clauses_number L b list) (length (clause_list (table_of b)) ∷ length (clause_words (table_of b)) ∷ [])
