-- The states that are joined to a state, and those apart from it, as words. Assumes nothing.
use Rattle.std.specs.Prelude.{◌≡◌, ◌≢◌, List, ℕ, ◌+◌, ◌-◌, ◌/◌, ◌%◌, ◌^◌, ◌≤◌, ◌<◌, length, get_or, set}
use Rattle.std.specs.Int.Bits.{bit_and, bit_or, bit_xor}
use Rattle.lists.specs.Bits.{Bit}
use Rattle.cnf.specs.Clauses.{value_of}
use Rattle.pairs.specs.Pairs.{pairs, variable_of}
use Rattle.sat_trail.specs.declared.rows.StateRows.{StateRows}

-- s is p, or joined to it
pub data IsJoined (n : ℕ) (v : List ℕ) (p s : ℕ) : Type 0 where
  itself : s < n → s ≡ p → IsJoined n v p s
  other : s < n → s ≢ p → value_of v (variable_of p s) ≡ 1 → IsJoined n v p s

pub record IsApart (n : ℕ) (v : List ℕ) (p s : ℕ) : Type 0 where
  pub inside : s < n
  pub different : s ≢ p
  pub false-pair : value_of v (variable_of p s) ≡ 0

-- the words say what the values say of the pairs of n states; where n is 0 the values are of any variables
pub record Rows (n : ℕ) (v joined apart : List ℕ) : Type 0 where
  pub few : n ≤ 40
  pub size : 0 < n → length v ≡ pairs n
  pub long-joined : length joined ≡ 40
  pub long_apart : length apart ≡ 40
  pub joined_of : (p s : ℕ) → p < n → Bit (get_or joined p 0) s → IsJoined n v p s
  pub of_joined : (p s : ℕ) → p < n → IsJoined n v p s → Bit (get_or joined p 0) s
  pub apart_of : (p s : ℕ) → p < n → Bit (get_or apart p 0) s → IsApart n v p s
  pub of_apart : (p s : ℕ) → p < n → IsApart n v p s → Bit (get_or apart p 0) s

-- the same of the words that the code holds
abbrev pub RowsOf : ℕ → List ℕ → StateRows → Type 0
RowsOf n v r = Rows n v r.joined r.apart

-- the words of a start: each state's has that state alone
pub record Own (f : List ℕ) : Type 0 where
  pub long : length f ≡ 40
  pub alone : (p : ℕ) → p < 40 → get_or f p 0 ≡ 2 ^ p

-- ---- a pair in the words

-- what a has and b has not
abbrev pub without : ℕ → ℕ → ℕ
without a b = bit_and a (bit_xor a b)

-- q in the word of p
unfoldable pub gain : List ℕ → ℕ → ℕ → List ℕ
gain f p q = set f p (bit_or (get_or f p 0) (2 ^ q))

-- and p in the word of q
unfoldable pub marked : List ℕ → ℕ → ℕ → List ℕ
marked f p q = gain (gain f p q) q p

-- q not in the word of p
unfoldable pub lose : List ℕ → ℕ → ℕ → List ℕ
lose f p q = set f p (without (get_or f p 0) (2 ^ q))

-- nor p in the word of q
unfoldable pub unmarked : List ℕ → ℕ → ℕ → List ℕ
unmarked f p q = lose (lose f p q) q p

-- a pair whose value is k is marked among the joined or the apart
pub record Marked (joined apart : List ℕ) (k p q : ℕ) (joined' apart' : List ℕ) : Type 0 where
  pub joins : k ≡ 1 → (joined' ≡ marked joined p q) × (apart' ≡ apart)
  pub parts : k ≢ 1 → (joined' ≡ joined) × (apart' ≡ marked apart p q)

-- ---- a pair's variable

-- x is the variable of p and q, two of n states
pub record PairAt (n x p q : ℕ) : Type 0 where
  pub order : p < q
  pub inside : q < n
  pub is_x : variable_of p q ≡ x

-- the variable x, the pair of p and q, is set to k, in the values, the trail and the words
pub record Put (v t joined apart : List ℕ) (count x p q k : ℕ) (w s joined' apart' : List ℕ) (r : ℕ) : Type 0 where
  pub values : w ≡ set v x k
  pub trail : s ≡ set t count x
  pub count-more : r ≡ count + 1
  pub marks : Marked joined apart k p q joined' apart'

-- an unset variable of v, which a value k is given to
pub record Settable (n : ℕ) (v joined apart : List ℕ) (x k : ℕ) : Type 0 where
  pub rows : Rows n v joined apart
  pub inside : x < length v
  pub unset : value_of v x ≡ 2
  pub small : k ≤ 1

-- the variable x has the value k, and the words go with it
pub record Assigned (n : ℕ) (v : List ℕ) (x k : ℕ) (w joined apart : List ℕ) : Type 0 where
  pub values : w ≡ set v x k
  pub rows : Rows n w joined apart

-- the literal l is made true, and its variable joins the trail
pub record Forced (n : ℕ) (v t : List ℕ) (count l : ℕ) (w s joined apart : List ℕ) (r : ℕ) : Type 0 where
  pub assigned : Assigned n v (l / 2) (1 - l % 2) w joined apart
  pub trail : s ≡ set t count (l / 2)
  pub count-more : r ≡ count + 1
