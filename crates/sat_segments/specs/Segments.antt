-- A list of clauses cut into 1,024 segments of whole clauses, and an index of them: for each variable the segments in which it stands, 16 words of 64
-- bits. Neither depends on values. Assumes nothing.
use Rattle.std.specs.Prelude.{◌≡◌, ◌⊎◌, Bool, true, false, ◌||◌, ℕ, ◌+◌, ◌-◌, ◌*◌, ◌/◌, ◌%◌, ◌≤◌, ◌<◌, length, get_or, take, drop, eqb, ltb}
use mathlib.Core.List.{List, [], ◌∷◌, Memᴰ}
use Rattle.std.specs.Int.Bits.{bit_or}
use Rattle.lists.specs.Bits.{Bit}
use Rattle.cnf.specs.Clauses.{clauses_in, whole}
use Rattle.cnf.specs.Closing.{Settled}

-- ---- segments

-- one of two numbers
abbrev pub either : Bool → ℕ → ℕ → ℕ
either true a b = a
either false a b = b

-- a segment that begins at `at` takes clauses up to here; the last one takes what is left
unfoldable pub limit_of : ℕ → ℕ → ℕ → ℕ
limit_of words at k = either (eqb k 1023 || ltb (words - at) (words / 1024 + 1)) words (at + (words / 1024 + 1))

-- the words from one place to another
abbrev pub between : List ℕ → ℕ → ℕ → List ℕ
between ws a b = take (b - a) (drop a ws)

-- they are whole clauses of the list
pub record Span (ws : List ℕ) (a b : ℕ) : Type 0 where
  pub ordered : a ≤ b
  pub inside : b ≤ length ws
  pub all_there : whole (between ws a b) ≡ true
  pub part : (c : List ℕ) → Memᴰ c (clauses_in (between ws a b)) → Memᴰ c (clauses_in ws)

-- segment k goes from its start to the next one's
abbrev pub segment_of : List ℕ → List ℕ → ℕ → List ℕ
segment_of ws starts k = between ws (get_or starts k 0) (get_or starts (k + 1) 0)

pub record Cut (ws starts : List ℕ) : Type 0 where
  pub long : length starts ≡ 1025
  pub each : (k : ℕ) → k < 1024 → Span ws (get_or starts k 0) (get_or starts (k + 1) 0)

-- ---- the index

-- segment k is one of those of the variable x
abbrev pub InMask : List ℕ → ℕ → ℕ → Type 0
InMask masks x k = Bit (get_or masks (x * 16 + k / 64) 0) (k % 64)

-- it is one of those of each of the literals' variables, and no variable has lost one
pub record Noted (ls : List ℕ) (k : ℕ) (masks masks' : List ℕ) : Type 0 where
  pub long : length masks' ≡ length masks
  pub kept : (i b : ℕ) → Bit (get_or masks i 0) b → Bit (get_or masks' i 0) b
  pub own : (l : ℕ) → Memᴰ l ls → InMask masks' (l / 2) k

-- the clause stands in a segment below k that all of its variables have
pub record Placed (ws starts masks : List ℕ) (k : ℕ) (c : List ℕ) : Type 0 where
  pub number : ℕ
  pub few : number < k
  pub has : Memᴰ c (clauses_in (segment_of ws starts number))
  pub marked : (l : ℕ) → Memᴰ l c → InMask masks (l / 2) number

-- the list is cut, and every clause stands in such a segment
pub record Marked (ws starts masks : List ℕ) : Type 0 where
  pub cut : Cut ws starts
  pub long : length masks ≡ 12480
  pub each : (c : List ℕ) → Memᴰ c (clauses_in ws) → Placed ws starts masks 1024 c

-- ---- sets of segments, 16 words of 64 bits

-- word j of the segments in which any of the variables stands
unfoldable pub word_over : List ℕ → ℕ → List ℕ → ℕ
word_over masks j [] = 0
word_over masks j (x ∷ xs) = bit_or (get_or masks (x * 16 + j) 0) (word_over masks j xs)

-- a set gains them
pub record Gained (masks xs before after : List ℕ) : Type 0 where
  pub long : length after ≡ 16
  pub each : (j : ℕ) → j < 16 → get_or after j 0 ≡ bit_or (get_or before j 0) (word_over masks j xs)

-- the clause stands in a segment of the set, from k on
pub record Due (ws starts set : List ℕ) (k : ℕ) (c : List ℕ) : Type 0 where
  pub number : ℕ
  pub later : k ≤ number
  pub few : number < 1024
  pub has : Memᴰ c (clauses_in (segment_of ws starts number))
  pub due : Bit (get_or set (number / 64) 0) (number % 64)

-- every clause is settled or stands in a segment of the set
abbrev pub SettledOrDue : List ℕ → List ℕ → List ℕ → List ℕ → Type 0
SettledOrDue ws starts set v = (c : List ℕ) → Memᴰ c (clauses_in ws) → Settled v c ⊎ Due ws starts set 0 c

-- ---- what the index is looked up with

-- the masks of variables of a part of the trail are there
pub record Lookup (masks trail : List ℕ) (from to : ℕ) : Type 0 where
  pub long : length masks ≡ 12480
  pub ordered : from ≤ to
  pub inside : to ≤ length trail
  pub below : (i : ℕ) → from ≤ i → i < to → get_or trail i 0 < 780
