-- How many states a lent table has, by its number. Assumes nothing.
use mathlib.Core.Path.{◌≡◌}
use mathlib.Core.Logic.{◌≢◌}
use mathlib.Core.List.{List}
use Prim.Native.Nat.{ℕ}
use Rattle.lists.proofs.Refusals.{refuses, not_refused}
use Rattle.limits.specs.declared.Limits.{Limits}
use Rattle.table_spec.specs.File.{table_of}
use Rattle.table_spec.specs.Reading.{read_number, Readable}
use Rattle.table_spec.specs.Language.{count}
use Rattle.reduce.specs.States.{states_of}

module _ (L : Limits) (b : List ℕ) where
  pub readable-states : Readable L b → count (table_of b) ≡ states_of L b
  unfolding states_of
  readable-states r = not_refused (read_number L b) (count (table_of b)) 0 r

  pub unread_states : {k : ℕ} → read_number L b ≡ k → k ≢ 0 → 0 ≡ states_of L b
  unfolding states_of
  unread_states e n = refuses (read_number L b) (count (table_of b)) (λ _. 0) e n
