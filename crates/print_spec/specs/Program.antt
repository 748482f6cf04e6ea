-- The limits that the program reads a table at (document 02, request (xiii)). Assumes nothing.
use Rattle.limits.specs.declared.Limits.{Limits}

-- "The program uses 40 and 64."
abbrev pub widest : Limits
widest = record { states = 40; symbols = 64 }
