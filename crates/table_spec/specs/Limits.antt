-- The limits that a table is read at. Assumes nothing.
use Rattle.std.specs.Prelude.{ℕ, ◌+◌, ◌*◌}
use Rattle.limits.specs.declared.Limits.{Limits}

-- "At most 1,024" internal records, as many calls, "At most 4,096" returns
abbrev pub move_limit : ℕ
move_limit = 1024

abbrev pub return_limit : ℕ
return_limit = 4096

-- "over 22,596 bytes": the longest file, every section full; 22,644 bytes at the largest limits
unfoldable pub longest : Limits → ℕ
longest L = L.symbols + L.states + 3 * move_limit + 3 * move_limit + 4 * return_limit + 12
