-- What the clauses of returns are stated with. Only contracts of functions that write clauses cite it. Assumes nothing.
use Rattle.std.specs.Prelude.{◌≡◌, true, false, ℕ, ◌<◌, ◌≤◌, length, get_or}
use mathlib.Core.List.{List, [], Memᴰ}
use Rattle.lists.specs.Lists.{concat_map, filter, upto}
use Rattle.lists.specs.Bits.{has}
use Rattle.limits.specs.Limits.{state_most}
use Rattle.table_spec.specs.File.{records}
use Rattle.table_find.specs.Spans.{starts_with}
use Rattle.tops_spec.specs.Tops.{live}
use Rattle.clauses_spec.specs.Clauses.{return_clause, top_states}
use Rattle.table_index.specs.Index.{Lent}
use Rattle.clauses_records.specs.declared.returns.Return.{Return}

-- returns that all start with a key
pub record Starting (key s : List ℕ) : Type 0 where
  pub lent : Lent 4 state_most s
  pub each : (r : List ℕ) → Memᴰ r (records 4 s) → starts_with key r ≡ true

-- a return's stack state
abbrev pub under : List ℕ → ℕ
under r = get_or r 2 0

-- from one record on, k is the first whose stack state is not below u; their count where there is none
pub record Reached (rs : List (List ℕ)) (from u k : ℕ) : Type 0 where
  pub begun : from ≤ k
  pub within : k ≤ length rs
  pub below : (j : ℕ) → from ≤ j → j < k → under (get_or rs j []) < u
  pub there : k < length rs → u ≤ under (get_or rs k [])

-- group 5: the clause of a return, a state and a top
abbrev pub return_of : List (List ℕ) → Return → ℕ → ℕ → List (List ℕ)
return_of rs x q u = return_clause rs x.from x.symbol x.under x.to q u

-- the clauses of one record under the tops, which has none where it is dead
unfoldable pub live_record : List (List ℕ) → List ℕ → ℕ → Return → List (List ℕ)
live_record rs f n x = elim (has f x.from x.under) [
  | true ↦ concat_map (λ q. concat_map (λ u. return_of rs x q u) (top_states f n q)) (upto n)
  | false ↦ []
]

-- the whole group, by the tops, the records and how many states there are
unfoldable pub return_clauses_by : List ℕ → List (List ℕ) → ℕ → List (List ℕ)
return_clauses_by f rs n =
    concat_map (λ r. concat_map (λ q. concat_map (λ u.
    return_clause rs (get_or r 0 0) (get_or r 1 0) (get_or r 2 0) (get_or r 3 0) q u)
    (top_states f n q)) (upto n)) (filter (live f) rs)
