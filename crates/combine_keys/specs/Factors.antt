-- What the functions of src/ ask of the two sections, and how far their loops go. Assumes nothing.
use Rattle.std.specs.Prelude.{◌≡◌, ◌⊎◌, true, false, ℕ, ◌+◌, ◌-◌, ◌*◌, ◌<◌, ◌≤◌, replicate, eqb}
use mathlib.Core.List.{List, Memᴰ}
use Rattle.limits.specs.Limits.{state_most, symbol_most}
use Rattle.table_spec.specs.File.{records}
use Rattle.table_spec.specs.Reading.{ascend}
use Rattle.table_find.specs.Keys.{key}
use Rattle.table_index.specs.Index.{Lent, Indexed}

-- what the key of a record gains where its states are shifted: each state is one byte of it
unfoldable pub offset : ℕ → ℕ → ℕ
offset w n = elim (eqb w 3) [ true ↦ n * 65537 | false ↦ n * 16777473 ]

-- records whose keys, with an offset, are numbers of 32 bits
abbrev pub Small : ℕ → ℕ → List ℕ → Type 0
Small w by s = (r : List ℕ) → Memᴰ r (records w s) → key r + by < 4294967296

-- sections of records of 3 or 4 bytes, the first's of n states
pub record Summands (w n : ℕ) (first second : List ℕ) : Type 0 where
  pub width : (w ≡ 3) ⊎ (w ≡ 4)
  pub few : n ≤ state_most
  pub first-lent : Lent w state_most first
  pub second-lent : Lent w state_most second

-- sections of n and m states, whose pairs are at most as many as a table has states
pub record Factors (w n m : ℕ) (first second : List ℕ) : Type 0 where
  pub width : (w ≡ 3) ⊎ (w ≡ 4)
  pub some-second : 1 ≤ m
  pub firsts-few : n ≤ state_most
  pub seconds-few : m ≤ state_most
  pub few : n * m ≤ state_most
  pub first-lent : Lent w n first
  pub second-lent : Lent w m second

-- the same with their indexes
pub record Ready (w n m : ℕ) (first second one two : List ℕ) : Type 0 where
  pub some-width : 3 ≤ w
  pub most-width : w ≤ 4
  pub some-second : 1 ≤ m
  pub firsts-few : n ≤ state_most
  pub seconds-few : m ≤ state_most
  pub few : n * m ≤ state_most
  pub first-lent : Lent w n first
  pub second-lent : Lent w m second
  pub one-indexed : Indexed n (records w first) one
  pub two-indexed : Indexed m (records w second) two

-- parts of sections of returns that ascend, and a symbol of one of n pairs
pub record Blocks (m n x a : ℕ) (first second : List ℕ) : Type 0 where
  pub some-second : 1 ≤ m
  pub seconds-few : m ≤ state_most
  pub few : n ≤ state_most
  pub pair : x < n
  pub symbol : a < symbol_most
  pub first_ascends : ascend (records 4 first) ≡ true
  pub second_ascends : ascend (records 4 second) ≡ true

-- the bounds of the bytes of a record between its symbol and its target: of a return the pair that was pushed
abbrev pub stack_bounds : ℕ → ℕ → List ℕ
stack_bounds w n = replicate (w - 3) n
