-- The word of a state at the start. Assumes nothing.
use Rattle.std.specs.Prelude.{true, false, ℕ, ◌^◌}
use Rattle.limits.specs.Limits.{state_most}
use Rattle.table_spec.specs.Reading.{is_initial}

-- a state's first word, by its byte
unfoldable pub start_word : ℕ → ℕ
start_word byte = elim (is_initial byte) [ true ↦ 2 ^ state_most | false ↦ 0 ]
