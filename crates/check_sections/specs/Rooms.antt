-- What the functions of src/ are stated with: the room of a state, in which its records are noted, and what a record asks of it. Assumes nothing.
use Rattle.std.specs.Prelude.{◌≡◌, ◌≢◌, Bool, true, false, ◌&&◌, ◌||◌, not, ℕ, ◌+◌, ◌-◌, ◌*◌, ◌^◌, ◌≤◌, ◌<◌, length, get_or, set, eqb, ltb}
use mathlib.Core.List.{List, Memᴰ}
use Rattle.std.specs.Int.Bits.{bit_and, bit_or}
use Rattle.std.specs.Int.Count.{count_trailing_zeros}
use Rattle.lists.specs.Lists.{any, all}
use Rattle.lists.specs.Bits.{Bit, has_bit, has}
use Rattle.limits.specs.Limits.{state_most, symbol_most}
use Rattle.table_spec.specs.File.{records}
use Rattle.table_spec.specs.Maps.{class_of}
use Rattle.check_matching.specs.Matching.{kept, record_matched}

-- the word of the states of class c
pub record Members (m : List ℕ) (c w : ℕ) : Type 0 where
  pub only : (x : ℕ) → Bit w x → (x < length m) × (c ≡ class_of m x)
  pub every : (x : ℕ) → x < length m → c ≡ class_of m x → Bit w x

-- .. for every class
pub record Classed (m words : List ℕ) : Type 0 where
  pub classes : (c : ℕ) → c < 256 → Members m c (get_or words c 0)

-- for every state the word of those joined to it
pub record Joined (m ws : List ℕ) : Type 0 where
  pub words : (q : ℕ) → q < length m → Members m (class_of m q) (get_or ws q 0)

-- the least state of a word
abbrev pub least_of : List ℕ → ℕ → ℕ
least_of ws q = count_trailing_zeros 64 (get_or ws q 0)

-- a record's target
abbrev pub last_of : List ℕ → ℕ
last_of r = get_or r (length r - 1) 0

-- the word of a record in a room: by its symbol and the least state of its target's class
abbrev pub place_of : List ℕ → List ℕ → ℕ
place_of ws r = get_or r 1 0 * state_most + least_of ws (last_of r)

-- its bit there: the state of a move, the stack state of a return
unfoldable pub bit_of : List ℕ → ℕ
bit_of r = elim (ltb (length r) 4) [ true ↦ get_or r 0 0 | false ↦ get_or r 2 0 ]

-- a record of 3 or 4 bytes that has a place, and states that are there
pub record Placed (ws r : List ℕ) : Type 0 where
  pub least : 3 ≤ length r
  pub most : length r ≤ 4
  pub symbol : get_or r 1 0 < symbol_most
  pub states : (i : ℕ) → i ≢ 1 → i < length r → get_or r i 0 < state_most
  pub target : least_of ws (last_of r) < state_most

-- all records of a section have one
pub record Lies (w : ℕ) (section ws : List ℕ) : Type 0 where
  pub wide : 3 ≤ w
  pub placed : (r : List ℕ) → Memᴰ r (records w section) → Placed ws r

-- the room that has gained a record's bit, where the record is one of these states; and where its word is cleared
unfoldable pub gained : List ℕ → ℕ → List ℕ → List ℕ → List ℕ
gained ws own r room = elim (has_bit own (get_or r 0 0)) [ true ↦ set room (place_of ws r) (bit_or (get_or room (place_of ws r) 0) (2 ^ bit_of r)) | false ↦ room ]

unfoldable pub cleared : List ℕ → ℕ → List ℕ → List ℕ → List ℕ
cleared ws own r room = elim (has_bit own (get_or r 0 0)) [ true ↦ set room (place_of ws r) 0 | false ↦ room ]

-- a room of nothing
pub record Empty (room : List ℕ) : Type 0 where
  pub long : length room ≡ 2560
  pub zero : (k : ℕ) → get_or room k 0 ≡ 0

-- the record is one of these states, and bit x of word k is its own
unfoldable pub noted : List ℕ → ℕ → ℕ → ℕ → List ℕ → Bool
noted ws own k x r = has_bit own (get_or r 0 0) && (eqb k (place_of ws r) && eqb x (bit_of r))

-- the room of the records of these states
pub record Room (rs : List (List ℕ)) (ws : List ℕ) (own : ℕ) (room : List ℕ) : Type 0 where
  pub long : length room ≡ 2560
  pub bits : (k x : ℕ) → has room k x ≡ any (noted ws own k x) rs

-- the word covers what the record asks for: of these tops those that are joined to the record's own state or stack state
abbrev pub covering : List ℕ → ℕ → List ℕ → List ℕ → Bool
covering ws tops room r = eqb (bit_or (get_or room (place_of ws r) 0) (bit_and (get_or ws (bit_of r) 0) tops)) (get_or room (place_of ws r) 0)

-- a record is matched by a room: one of other states asks nothing, nor does a dead return
abbrev pub met_by : List ℕ → List ℕ → ℕ → ℕ → List ℕ → List ℕ → Bool
met_by f ws askers tops room r = not (has_bit askers (get_or r 0 0)) || (not (kept f r) || covering ws tops room r)

-- (ii) to (iv) for one state q: it matches every record
abbrev pub state_matched : ℕ → List ℕ → List (List ℕ) → ℕ → List ℕ → ℕ → Bool
state_matched w f rs n m q = all (λ r. record_matched w f rs n m r q) rs
