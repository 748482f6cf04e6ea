-- What the functions of src/ are stated with: what records gain. Assumes nothing.
use Rattle.std.specs.Prelude.{true, false, List, [], ◌∷◌, ℕ, ◌<◌, get_or}
use mathlib.Core.Logic.{◌≢◌}
use mathlib.Core.List.{Memᴰ}
use Rattle.lists.specs.Bits.{has_bit}
use Rattle.limits.specs.Limits.{state_most}
use Rattle.table_spec.specs.File.{records}
use Rattle.tops_spec.specs.Tops.{add}
use Rattle.script_spec.specs.Script.{Level}

-- records whose states are states of a table
abbrev pub Few : ℕ → List ℕ → Type 0
Few w found = (r : List ℕ) → Memᴰ r (records w found) → (i : ℕ) → i ≢ 1 → i < w → get_or r i 0 < state_most

-- the target of each of the records gains tops
unfoldable pub all_gain : (List ℕ → ℕ) → ℕ → List (List ℕ) → Level → Level
all_gain gain to [] g = g
all_gain gain to (r ∷ rs) g = all_gain gain to rs (add g (get_or r to 0) (gain r))

-- what a return (q, a, s, q') gives where q is reached over the states of a word
unfoldable pub popped : ℕ → Level → List ℕ → ℕ
popped reached below r = elim (has_bit reached (get_or r 2 0)) [ true ↦ get_or below (get_or r 2 0) 0 | false ↦ 0 ]
