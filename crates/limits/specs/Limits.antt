-- The limits that a table is read at (document 02, request (xiii)). Assumes nothing.
use Rattle.std.specs.Prelude.{Bool, ◌&&◌, ℕ, leb}
use Rattle.limits.specs.declared.Limits.{Limits}

-- "A caller that gives none has 24 and 32."
abbrev pub standard : Limits
standard = record { states = 24; symbols = 32 }

-- "state limit at most 40, symbol limit at most 64"
abbrev pub state_most : ℕ
state_most = 40

abbrev pub symbol_most : ℕ
symbol_most = 64

-- the limits that permit every table: "The program uses 40 and 64."
abbrev pub widest : Limits
widest = record { states = state_most; symbols = symbol_most }

-- 39: "a limit of zero or past its maximum"
unfoldable pub limits_fit : Limits → Bool
limits_fit L = leb 1 L.states && leb L.states state_most && leb 1 L.symbols && leb L.symbols symbol_most
