-- What the C interface returns and writes, from the operations' answers. Assumes nothing.
use Rattle.std.specs.Prelude.{Bool, Result, List, [], ◌∷◌, ℕ}
use Rattle.capi_values.specs.Storing.{stored}
use Rattle.refusals.specs.declared.Refusal.{Refusal}
use Rattle.refusals.specs.Refusals.{number_in, one_value, values_in}
use Rattle.table_spec.specs.declared.Starts.{Starts}
use Rattle.table_spec.specs.Reading.{start_values}
use Rattle.tops_spec.specs.declared.TopWords.{TopWords}
use Rattle.tops_spec.specs.Tops.{tops_values}
use Rattle.clauses_spec.specs.Clauses.{ClausesDone, listed_values}
use Rattle.search_spec.specs.Answers.{Searched}
use Rattle.quotient_spec.specs.Quotient.{QuotientDone}
use Rattle.reduce_spec.specs.Reduce.{Reduced, reduction_values}
use Rattle.uses_spec.specs.declared.Counted.{Counted}
use Rattle.uses_spec.specs.Uses.{counted_values}
use Rattle.choose_spec.specs.declared.Which.{Which}
use Rattle.choose_spec.specs.Choose.{which_values}
use Rattle.season_spec.specs.Seasons.{SeasonDone, season_values}
use Rattle.records_spec.specs.Fates.{RecordsDone, count_values}
use Rattle.script_spec.specs.Script.{yes_values}

-- what a call returns, and at its exit the operation's buffers and `values`
pub record Out : Type 0 where
  pub number : ℕ
  pub buffers : List (List ℕ)
  pub values : List ℕ

-- from `values` at entry: an answer's number, its values stored, and the operation's buffers
unfoldable pub out : List ℕ → ℕ → List ℕ → List (List ℕ) → Out
out values number vs buffers = record { number = number; buffers = buffers; values = stored vs values }

module _ (values : List ℕ) where
  unfoldable pub read_out : Result Starts Refusal → Out
  read_out r = out values (number_in r) (values_in start_values r) []

  unfoldable pub tops_out : Result TopWords Refusal → Out
  tops_out r = out values (number_in r) (values_in tops_values r) []

  unfoldable pub clauses_out : ClausesDone → Out
  clauses_out r = out values (number_in r.answer) (values_in listed_values r.answer) (r.list ∷ [])

  unfoldable pub search_out : Searched → Out
  search_out r = out values (number_in r.solution) (values_in one_value r.solution) (r.answer ∷ [])

  unfoldable pub check_out : Result ℕ Refusal → Out
  check_out r = out values (number_in r) (values_in one_value r) []

  -- a table that is written: a quotient, or one drawn from a seed
  unfoldable pub quotient_out : QuotientDone → Out
  quotient_out r = out values (number_in r.answer) (values_in one_value r.answer) (r.out ∷ [])

  unfoldable pub reduce_out : Reduced → Out
  reduce_out r = out values (number_in r.answer) (values_in reduction_values r.answer) (r.list ∷ r.map ∷ r.out ∷ [])

  unfoldable pub season_out : SeasonDone → Out
  season_out r = out values (number_in r.answer) (season_values r.answer) (r.list ∷ r.maps ∷ r.out ∷ [])

  unfoldable pub uses_out : Result Counted Refusal → Out
  uses_out r = out values (number_in r) (values_in counted_values r) []

  unfoldable pub records_out : RecordsDone → Out
  records_out r = out values (number_in r.answer) (values_in count_values r.answer) (r.out ∷ [])

  unfoldable pub choose_out : Result Which Refusal → Out
  choose_out r = out values (number_in r) (values_in which_values r) []

  unfoldable pub script_out : Result Bool Refusal → Out
  script_out r = out values (number_in r) (values_in yes_values r) []

  unfoldable pub fit_out : Result Bool Refusal → Out
  fit_out r = out values (number_in r) (values_in yes_values r) []
