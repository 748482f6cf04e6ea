-- What the functions of src/ are stated with: the room where images are stamped, and the passes over a section. Assumes nothing.
use Rattle.std.specs.Prelude.{◌≡◌, true, false, ℕ, ◌+◌, ◌-◌, ◌*◌, ◌<◌, ◌≤◌, length, get_or, set}
use mathlib.Core.List.{List, [], Memᴰ}
use Rattle.limits.specs.Limits.{state_most, symbol_most}
use Rattle.table_spec.specs.File.{records}
use Rattle.table_spec.specs.Reading.{ascend}
use Rattle.table_spec.specs.Maps.{class_of, classes}
use Rattle.check_matching.specs.Matching.{kept}
use Rattle.records_spec.specs.Fates.{kept_mark, folded_mark, dead_mark, section_fates}

-- the place of a record's image among the images of one class: its symbol, the class of its stack state where it has one, and of its target
unfoldable pub place_of : List ℕ → List ℕ → ℕ
place_of m r = (get_or r 1 0 * 40 + class_of m (get_or r 2 0)) * 40 + class_of m (get_or r (length r - 1) 0)

-- a record of 3 or 4 bytes whose symbol and classes have a place
pub record Placed (m r : List ℕ) : Type 0 where
  pub least : 3 ≤ length r
  pub most : length r ≤ 4
  pub symbol : get_or r 1 0 < symbol_most
  pub class : (q : ℕ) → class_of m q < state_most

-- a record's mark, and the room after it: an image that is met first is stamped
pub data Stamped (f m : List ℕ) (stamp : ℕ) (r room : List ℕ) : ℕ → List ℕ → Type 0 where
  dead : kept f r ≡ false → Stamped f m stamp r room dead_mark room
  again : kept f r ≡ true → get_or room (place_of m r) 0 ≡ stamp → Stamped f m stamp r room folded_mark room
  first : kept f r ≡ true → (get_or room (place_of m r) 0 ≡ stamp → ⊥) → Stamped f m stamp r room kept_mark (set room (place_of m r) stamp)

-- the room has its places, and no stamp in it is above this one
pub record UpTo (stamp : ℕ) (room : List ℕ) : Type 0 where
  pub places : length room ≡ 102400
  pub small : (k : ℕ) → get_or room k 0 ≤ stamp

-- record i of a section, its state, and how many there are
abbrev pub record_at : ℕ → List ℕ → ℕ → List ℕ
record_at w s i = get_or (records w s) i []

abbrev pub state_at : ℕ → List ℕ → ℕ → ℕ
state_at w s i = get_or (record_at w s i) 0 0

abbrev pub records_in : ℕ → List ℕ → ℕ
records_in w s = length (records w s)

-- a section as it is marked: moves or returns, in order, of symbols and states that are there, under a map of few classes
pub record Fitting (w : ℕ) (s m : List ℕ) : Type 0 where
  pub moves : 3 ≤ w
  pub returns : w ≤ 4
  pub in_order : ascend (records w s) ≡ true
  pub symbols : (r : List ℕ) → Memᴰ r (records w s) → get_or r 1 0 < symbol_most
  pub states : (r : List ℕ) → Memᴰ r (records w s) → get_or r 0 0 < length m
  pub few-states : length m ≤ state_most
  pub few-classes : classes m ≤ state_most

-- for each state the index after its last record, 0 where it has none
pub record Ends (w : ℕ) (s ends : List ℕ) : Type 0 where
  pub behind : (j : ℕ) → j < records_in w s → j < get_or ends (state_at w s j) 0
  pub inside : (p : ℕ) → get_or ends p 0 ≤ records_in w s
  pub last : (p : ℕ) → 0 < get_or ends p 0 → state_at w s (get_or ends p 0 - 1) ≡ p

-- the marks of the records of class c are written, and nothing else
pub record ClassMarked (w : ℕ) (s f m : List ℕ) (c : ℕ) (old new : List ℕ) : Type 0 where
  pub long : length new ≡ length old
  pub done : (j : ℕ) → j < records_in w s → class_of m (state_at w s j) ≡ c → get_or new j 0 ≡ get_or (section_fates (kept f) m (records w s)) j 0
  pub rest : (j : ℕ) → (j < records_in w s → class_of m (state_at w s j) ≡ c → ⊥) → get_or new j 0 ≡ get_or old j 0
