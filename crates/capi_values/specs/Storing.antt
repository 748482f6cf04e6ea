-- The values of an answer in a lent buffer. Assumes nothing.
use Rattle.std.specs.Prelude.{true, false, List, ℕ, length, leb}
use Rattle.lists.specs.Lists.{over}

-- the values at the front of the buffer, where it has room for all of them
unfoldable pub stored : List ℕ → List ℕ → List ℕ
stored vs buffer = elim (leb (length vs) (length buffer)) [ true ↦ over vs buffer | false ↦ buffer ]
