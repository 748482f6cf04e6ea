-- What the functions of src/ are stated with: the possible records of a section by number, and what the draws for them give. Assumes nothing.
use Rattle.std.specs.Prelude.{◌≡◌, ℕ, ◌+◌, ◌-◌, ◌<◌, ◌≤◌, ◌⊎◌, Option, MatchOption, List, [], length, take, replicate, slice_index_or}
use Rattle.lists.specs.Lists.{upto}
use Rattle.limits.specs.Limits.{state_most, symbol_most}
use Rattle.table_find.specs.Keys.{key}
use Rattle.table_write.specs.Keys.{keys_of, Holds}
use Rattle.generate_spec.specs.Loads.{tuples, present, after}
use Rattle.generate.specs.declared.draws.Drawn.{Drawn}

-- records of 3 or 4 bytes over so many states, with symbols from `from` on
pub record Shape (w n from k : ℕ) : Type 0 where
  pub width : (w ≡ 3) ⊎ (w ≡ 4)
  pub states : n ≤ state_most
  pub symbols : from + k ≤ symbol_most

-- how many records of a width there are to a state and a symbol
unfoldable pub tails : ℕ → ℕ → ℕ
tails w n = length (tuples (replicate (w - 2) (upto n)))

-- the key of record i
unfoldable pub record_at : List (List ℕ) → ℕ → ℕ
record_at rs i = key (slice_index_or rs i [])

-- what the draws for records give, from s on, where there is room for all that are present: their keys, and the last s
pub record Drew (density s : ℕ) (rs : List (List ℕ)) (room : ℕ) (r : Drawn) (keys : List ℕ) : Type 0 where
  pub few : length (present density s rs) ≤ room
  pub holds : Holds keys r.count (keys_of (present density s rs))
  pub last : r.s ≡ after s rs

-- of more records than there is room for, the keys of the first of them, as many as there is room for
pub record Overfull (density s : ℕ) (rs : List (List ℕ)) (room : ℕ) (keys : List ℕ) : Type 0 where
  pub many : room < length (present density s rs)
  pub holds : Holds keys room (take room (keys_of (present density s rs)))

-- .. and no count where there is not room for all
abbrev pub Draws : ℕ → ℕ → List (List ℕ) → ℕ → Option Drawn → List ℕ → Type 0
Draws density s rs room r keys = MatchOption r (Overfull density s rs room keys) (λ x. Drew density s rs room x keys)
