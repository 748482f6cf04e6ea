-- A season on one budget (document 02, request (ix)): tables back to back, reduced in order with shared guesses. Assumes nothing.
use Rattle.std.specs.Prelude.{Bool, true, false, ◌&&◌, Result, Ok, Err, List, [], ◌∷◌, ◌++◌, ℕ, ◌+◌, ◌-◌, ◌/◌, length, get_or, take, drop, replicate, eqb, leb}
use Rattle.lists.specs.Lists.{concat_map, sum, over, first_failed, Says}
use Rattle.limits.specs.declared.Limits.{Limits}
use Rattle.refusals.specs.declared.Refusal.{Refusal}
use Rattle.refusals.specs.Refusals.{refusal, number_in, values_in}
use Rattle.limits.specs.Limits.{limits_fit}
use Rattle.table_spec.specs.File.{table_of}
use Rattle.table_spec.specs.Language.{count}
use Rattle.reduce_spec.specs.Reduce.{reduce_of, reduction_values}
use Rattle.reduce_spec.specs.declared.Reduction.{Reduction}

-- an answer as 8 numbers: its number and its values, zeros with a refusal
unfoldable pub row : Result Reduction Refusal → List ℕ
row r = number_in r ∷ over (values_in reduction_values r) (replicate 7 0)

-- "A refused table .. counts as no guesses"
unfoldable pub guesses_in : Result Reduction Refusal → ℕ
guesses_in r = get_or (values_in reduction_values r) 1 0

-- "A refused table writes no map or reduced table": how many bytes of the maps, and of the reduced tables, the table b took
unfoldable pub map_taken : List ℕ → Result Reduction Refusal → ℕ
map_taken b r = elim (values_in reduction_values r) [ [] ↦ 0 | v ∷ vs ↦ count (table_of b) ]

unfoldable pub out_taken : Result Reduction Refusal → ℕ
out_taken r = get_or (values_in reduction_values r) 3 0

-- the answers in the tables' order, and the clause buffer, the maps and the reduced tables at exit
pub record Reductions : Type 0 where
  pub answers : List (Result Reduction Refusal)
  pub list : List ℕ
  pub maps : List ℕ
  pub out : List ℕ

-- the tables of these lengths "in order": "Each may use its share .. plus what earlier ones left" (saved), "each table gets what the earlier ones left
-- of those buffers", "The clause buffer is lent whole to each in turn", and "the rest go on"
unfoldable pub reductions_from : Limits → ℕ → ℕ → List ℕ → List ℕ → List ℕ → List ℕ → List ℕ → Reductions
reductions_from L share saved [] tables list maps out = record { answers = []; list = list; maps = maps; out = out }
reductions_from L share saved (n ∷ ns) tables list maps out =
    let b = take n tables in
    let r = reduce_of L b (share + saved) list maps out in
    let m = map_taken b r.answer in
    let l = out_taken r.answer in
    let rest = reductions_from L share (share + saved - guesses_in r.answer) ns (drop n tables) r.list (drop m r.map) (drop l r.out) in
    record { answers = r.answer ∷ rest.answers; list = rest.list; maps = take m r.map ++ rest.maps; out = take l r.out ++ rest.out }

-- "its share, G divided by the number of tables rounded down"
unfoldable pub share_of : ℕ → List ℕ → ℕ
share_of guesses lengths = guesses / length lengths

-- 34: "no table, more than 8, or lengths that do not add up to the buffer", of so many bytes
unfoldable pub lengths_fit : ℕ → List ℕ → Bool
lengths_fit all lengths = leb 1 (length lengths) && leb (length lengths) 8 && eqb (sum lengths) all

-- 39, then 34, "before anything else"; or 0
unfoldable pub season_number : Limits → List ℕ → List ℕ → ℕ
season_number L tables lengths = first_failed ((39, limits_fit L) ∷ (34, lengths_fit (length tables) lengths) ∷ [])

-- the answer, and the clause buffer, the maps and the reduced tables at exit
pub record SeasonDone : Type 0 where
  pub answer : Result (List ℕ) Refusal
  pub list : List ℕ
  pub maps : List ℕ
  pub out : List ℕ

-- the operation
unfoldable pub season_of : Limits → List ℕ → List ℕ → ℕ → List ℕ → List ℕ → List ℕ → SeasonDone
season_of L tables lengths guesses list maps out = elim (eqb (season_number L tables lengths) 0) [
  | true ↦
      let r = reductions_from L (share_of guesses lengths) 0 lengths tables list maps out in
      record { answer = Ok (over (concat_map row r.answers) (replicate 64 0)); list = r.list; maps = r.maps; out = r.out }
  | false ↦ record { answer = Err (refusal (season_number L tables lengths)); list = list; maps = maps; out = out }
]

-- an answer's values: all 64, none with a refusal
abbrev pub season_values : Result (List ℕ) Refusal → List ℕ
season_values r = values_in (λ vs. vs) r

-- the answer by its number and its values
abbrev pub SeasonSays : Limits → List ℕ → List ℕ → ℕ → List ℕ → List ℕ → List ℕ → Result (List ℕ) Refusal → Type 0
SeasonSays L tables lengths guesses list maps out r =
    let run = reductions_from L (share_of guesses lengths) 0 lengths tables list maps out in
    Says (number_in r) (season_values r) (season_number L tables lengths) (over (concat_map row run.answers) (replicate 64 0))
