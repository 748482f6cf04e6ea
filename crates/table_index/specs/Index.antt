-- What the functions of src/ are stated with: records lent, and where those of each state and symbol begin. Assumes nothing.
use Rattle.std.specs.Prelude.{◌≡◌, ◌≢◌, true, ℕ, ◌+◌, ◌*◌, ◌<◌, ◌≤◌, length, get_or}
use mathlib.Core.List.{List, [], Memᴰ}
use Rattle.limits.specs.Limits.{state_most, symbol_most}
use Rattle.table_spec.specs.File.{records}
use Rattle.table_spec.specs.Limits.{return_limit}
use Rattle.table_spec.specs.Reading.{ascend}

-- records of w bytes in order, which name states below n and possible symbols
pub record Lent (w n : ℕ) (s : List ℕ) : Type 0 where
  pub in_order : ascend (records w s) ≡ true
  pub few : length (records w s) ≤ return_limit
  pub states : (r : List ℕ) → Memᴰ r (records w s) → (i : ℕ) → i ≢ 1 → i < w → get_or r i 0 < n
  pub symbols : (r : List ℕ) → Memᴰ r (records w s) → get_or r 1 0 < symbol_most

-- at most 40 states, and such records of theirs
pub record LentParts (states internals calls returns : List ℕ) : Type 0 where
  pub few : length states ≤ state_most
  pub internals-lent : Lent 3 (length states) internals
  pub calls-lent : Lent 3 (length states) calls
  pub returns-lent : Lent 4 (length states) returns

-- the number of a record's state and symbol, in the file's order
abbrev pub place_of : List ℕ → ℕ
place_of r = get_or r 0 0 * symbol_most + get_or r 1 0

-- how many such numbers there are of n states
abbrev pub places : ℕ → ℕ
places n = n * symbol_most

-- i records stand before the place x, and the others do not
pub record Begins (rs : List (List ℕ)) (x i : ℕ) : Type 0 where
  pub within : i ≤ length rs
  pub before : (j : ℕ) → j < i → place_of (get_or rs j []) < x
  pub behind : (j : ℕ) → i ≤ j → j < length rs → x ≤ place_of (get_or rs j [])

-- an index of n states: for each state and symbol, where their records begin, and one entry more for the end
pub record Indexed (n : ℕ) (rs : List (List ℕ)) (starts : List ℕ) : Type 0 where
  pub each : (x : ℕ) → x ≤ places n → Begins rs x (get_or starts x 0)

-- the two entries between which the records of a state and a symbol stand
pub record Placed (rs : List (List ℕ)) (starts : List ℕ) (q a : ℕ) : Type 0 where
  pub here : Begins rs (q * symbol_most + a) (get_or starts (q * symbol_most + a) 0)
  pub next : Begins rs (q * symbol_most + a + 1) (get_or starts (q * symbol_most + a + 1) 0)

-- from one place up to another all entries are k, and the others are as they were
pub record Filled (from to k : ℕ) (old new : List ℕ) : Type 0 where
  pub long : length new ≡ length old
  pub inside : (x : ℕ) → from ≤ x → x < to → get_or new x 0 ≡ k
  pub before : (x : ℕ) → x < from → get_or new x 0 ≡ get_or old x 0
  pub behind : (x : ℕ) → to ≤ x → get_or new x 0 ≡ get_or old x 0
