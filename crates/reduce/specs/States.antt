-- The states of a table that is lent. Assumes nothing.
use Rattle.std.specs.Prelude.{true, false, List, ℕ, eqb}
use Rattle.limits.specs.declared.Limits.{Limits}
use Rattle.table_spec.specs.File.{table_of}
use Rattle.table_spec.specs.Reading.{read_number}
use Rattle.table_spec.specs.Language.{count}

-- how many states a table has that is readable at the limits; 0 where it is not
unfoldable pub states_of : Limits → List ℕ → ℕ
states_of L b = elim (eqb (read_number L b) 0) [ true ↦ count (table_of b) | false ↦ 0 ]
