-- The operation reduce: its refusals in their order, its answer, and every buffer at exit (document 01, "Check and quotient" and "Refused
-- calls"; document 02, requests (ii) and (viii)). Assumes nothing.
use Rattle.std.specs.Prelude.{Bool, true, false, Result, Ok, Err, List, [], ◌∷◌, ℕ, length, eqb, leb}
use Rattle.lists.specs.Lists.{filter, concat_map, upto, over, first_failed, stage, Says}
use Rattle.script_spec.specs.Script.{yes_value}
use Rattle.cnf.specs.Search.{Outcome, search_from, made_of, is_spent}
use Rattle.cnf.specs.Trials.{ceiling_of, Tried, search_tried}
use Rattle.limits.specs.declared.Limits.{Limits}
use Rattle.refusals.specs.declared.Refusal.{Refusal}
use Rattle.refusals.specs.Refusals.{refusal, number_in, values_in}
use Rattle.pairs.specs.Pairs.{pairs}
use Rattle.table_spec.specs.File.{table_of}
use Rattle.table_spec.specs.Reading.{read_number}
use Rattle.table_spec.specs.Language.{count}
use Rattle.table_spec.specs.Maps.{joins, classes}
use Rattle.clauses_spec.specs.Clauses.{clause_list, short_words}
use Rattle.clauses_spec.specs.Maps.{map_of}
use Rattle.quotient_spec.specs.Quotient.{quotient_bytes, quotient_number}
use Rattle.reduce_spec.specs.declared.Reduction.{Reduction}

-- the answer, and the clause buffer, the map buffer and the output at exit
pub record Reduced : Type 0 where
  pub answer : Result Reduction Refusal
  pub list : List ℕ
  pub map : List ℕ
  pub out : List ℕ

-- 39, 1 to 8; then 22: "map buffer under one byte a state"; then 10: the list without group 2 longer than the clause buffer ("10 is judged on it"); or 0
unfoldable pub before_search : Limits → List ℕ → List ℕ → List ℕ → ℕ
before_search L b list map =
    first_failed
    (stage (read_number L b)
    ∷ (22, leb (count (table_of b)) (length map))
    ∷ (10, leb (length (short_words (table_of b))) (length list))
    ∷ [])

-- the search that reduce runs: "Assignment and guess count must equal those over the full list", with a variable for each pair of the states
unfoldable pub search_of_table : List ℕ → ℕ → Outcome
search_of_table b budget = search_from (clause_list (table_of b)) (pairs (count (table_of b))) budget

-- the same with its trials, "both read over the full list": its outcome is that of the search (cnf/proofs/Trying, tried-outcome)
unfoldable pub tried_of_table : List ℕ → ℕ → Tried
tried_of_table b budget = search_tried (clause_list (table_of b)) (pairs (count (table_of b))) budget

-- "joined pairs": the pairs p < q of n states that the map joins
unfoldable pub joined_pairs : ℕ → List ℕ → ℕ
joined_pairs n m = length (concat_map (λ q. filter (λ p. joins m p q) (upto q)) (upto n))

module _ (L : Limits) (b list map out : List ℕ) where
  -- with 21 or a delivery "the clause buffer starts with the list, the rest unchanged": the list without group 2
  abbrev listed : List ℕ
  listed = over (short_words (table_of b)) list

  -- a refusal once the list is written
  abbrev refused_later : ℕ → Reduced
  refused_later k = record { answer = Err (refusal k); list = listed; map = map; out = out }

  -- the map m, after k guesses, with the ceiling u, the budget spent or not: check and quotient, then 21; "writes the map to the first bytes of
  -- the map buffer, the rest unchanged"; "It always reports joined pairs J and a ceiling U"
  unfoldable pub deliver : List ℕ → ℕ → ℕ → Bool → Reduced
  deliver m k u s = elim (eqb (quotient_number L b m out) 0) [
    | true ↦ record {
      answer =
          Ok (record {
            classes = classes m;
            guesses = k;
            words = length (short_words (table_of b));
            length = length (quotient_bytes b m);
            joined = joined_pairs (count (table_of b)) m;
            ceiling = u;
            spent = s;
          });
      list = listed;
      map = over m map;
      out = over (quotient_bytes b m) out;
    }
    | false ↦ refused_later (quotient_number L b m out)
  ]

  -- what the search's end leads to: the map of the trial that is held, which where the search is solved is what it found (cnf/proofs/Trials,
  -- solved-held); "On spent, reduce delivers that map." That no assignment exists does not happen (proofs/Ways)
  unfoldable pub after_search : Tried → Reduced
  after_search e = deliver (map_of e.trials.held (count (table_of b))) (made_of e.outcome) (ceiling_of e.trials.ceiling) (is_spent e.outcome)

-- the operation: "Reduce runs reading, clauses, search, map, check, quotient."
unfoldable pub reduce_of : Limits → List ℕ → ℕ → List ℕ → List ℕ → List ℕ → Reduced
reduce_of L b budget list map out = elim (eqb (before_search L b list map) 0) [
  | true ↦ after_search L b list map out (tried_of_table b budget)
  | false ↦ record { answer = Err (refusal (before_search L b list map)); list = list; map = map; out = out }
]

-- its values
abbrev pub reduction_values : Reduction → List ℕ
reduction_values r = r.classes ∷ r.guesses ∷ r.words ∷ r.length ∷ r.joined ∷ r.ceiling ∷ yes_value r.spent ∷ []

-- 39, 1 to 8, 22, 10, then those of the quotient under the map of the trial that is held, of which only 21 comes out (proofs/Ways); or 0
unfoldable pub reduce_number : Limits → List ℕ → ℕ → List ℕ → List ℕ → List ℕ → ℕ
reduce_number L b budget list map out = first_failed (stage (before_search L b list map) ∷ (21, leb (length (quotient_bytes b (map_of (tried_of_table b budget).trials.held (count (table_of b))))) (length out)) ∷ [])

-- the answer by its number and its values
abbrev pub ReduceSays : Limits → List ℕ → ℕ → List ℕ → List ℕ → List ℕ → Result Reduction Refusal → Type 0
ReduceSays L b budget list map out r =
    let e = tried_of_table b budget in
    let m = map_of e.trials.held (count (table_of b)) in
    Says (number_in r) (values_in reduction_values r) (reduce_number L b budget list map out)
    (classes m ∷ made_of e.outcome ∷ length (short_words (table_of b)) ∷ length (quotient_bytes b m) ∷ joined_pairs (count (table_of b)) m ∷ ceiling_of e.trials.ceiling ∷ yes_value (is_spent e.outcome) ∷ [])
