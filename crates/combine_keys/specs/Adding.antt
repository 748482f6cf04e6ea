-- Keys that are collected, and what a function adds to those that were there. Assumes nothing.
use Rattle.std.specs.Prelude.{List, [], ◌∷◌, ◌++◌, ℕ, ◌+◌, ◌-◌, ◌*◌, ◌<◌, Option, MatchOption, length, get_or}
use Rattle.lists.specs.Lists.{concat_map}
use Rattle.table_spec.specs.File.{records}
use Rattle.table_find.specs.Keys.{key}
use Rattle.table_write.specs.Keys.{Holds}

-- all of these keys stand in the buffer, so many; or there is no room for them
abbrev pub Collected : ℕ → List ℕ → List ℕ → Option ℕ → Type 0
Collected room all keys r = MatchOption r (room < length all) (λ count. Holds keys count all)

-- the keys xs are added to those that were there
pub record Adds (xs old : List ℕ) (n : ℕ) (new : List ℕ) (r : Option ℕ) : Type 0 where
  pub each : (all : List ℕ) → Holds old n all → Collected (length old) (all ++ xs) new r

-- the keys of a section's records, with an offset
unfoldable pub shifted_keys : ℕ → ℕ → List ℕ → List ℕ
shifted_keys by w s = concat_map (λ r. (key r + by) ∷ []) (records w s)

-- bytes, then a pair: its first state times the count of the second's, and the last byte of each record
unfoldable pub row_keys : ℕ → ℕ → ℕ → List ℕ → List ℕ
row_keys prefix base w s = concat_map (λ r. (prefix * 256 + (base + get_or r (w - 1) 0)) ∷ []) (records w s)

unfoldable pub target_keys : ℕ → ℕ → ℕ → List ℕ → List ℕ → List ℕ
target_keys prefix m w s s' = concat_map (λ r. row_keys prefix (get_or r (w - 1) 0 * m) w s') (records w s)
