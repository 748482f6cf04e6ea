-- The constant table for the way back (document 02, requests (iii) and (xiii)). Assumes nothing.
use Rattle.std.specs.Prelude.{◌≡◌, List, ℕ, ◌/◌, ◌%◌, ◌<◌, length, get_or}
use Rattle.limits.specs.Limits.{state_most}
use Rattle.pairs.specs.declared.Pair.{Pair}
use Rattle.pairs.specs.Pairs.{pairs, variable_of}

-- the pair at a place of a table, whose entries are p + 256 q; 0 and 0 past its end
abbrev pub pair_in : List ℕ → ℕ → Pair
pair_in t v = record { low = get_or t v 0 % 256; high = get_or t v 0 / 256 }

-- "the p and q, p below q, whose variable by 01's formula is" v
pub record PairFor (v : ℕ) (x : Pair) : Type 0 where
  pub ordered : x.low < x.high
  pub placed : variable_of x.low x.high ≡ v

-- "a constant table of 276 pairs, in the order of the variables", 780 for 40 states: "Each entry holds" the pair "whose variable .. is that entry's place"
pub record PairTable (t : List ℕ) : Type 0 where
  pub long : length t ≡ pairs state_most
  pub each : (v : ℕ) → v < pairs state_most → PairFor v (pair_in t v)
