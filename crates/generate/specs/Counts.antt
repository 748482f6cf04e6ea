-- What the functions of src/ are stated with. Assumes nothing.
use Rattle.std.specs.Prelude.{ℕ, ◌≤◌, true, false, Err, List, length}
use Rattle.limits.specs.Limits.{state_most, symbol_most}
use Rattle.table_spec.specs.Limits.{move_limit, return_limit}
use Rattle.quotient_spec.specs.Quotient.{QuotientDone}
use Rattle.refusals.specs.declared.Refusal.TheVariants.{LoadRecords}
use Rattle.table_write.specs.Tables.{written_for}
use Rattle.generate_spec.specs.Loads.{Load, records_few, described, described_bytes}

-- counts within the largest limits
pub record Counts (states symbols : ℕ) : Type 0 where
  pub some-state : 1 ≤ states
  pub states-few : states ≤ state_most
  pub symbols-few : symbols ≤ symbol_most

-- no more keys than the file permits records
pub record FewKeys (internals calls returns : List ℕ) : Type 0 where
  pub internals-few : length internals ≤ move_limit
  pub calls-few : length calls ≤ move_limit
  pub returns-few : length returns ≤ return_limit

-- 36 and 21: the answer and the output where 39 and 35 do not apply
unfoldable pub drawn_for : Load → List ℕ → QuotientDone
drawn_for g out = elim (records_few (described g)) [ true ↦ written_for (described_bytes g) out | false ↦ record { answer = Err LoadRecords; out = out } ]
