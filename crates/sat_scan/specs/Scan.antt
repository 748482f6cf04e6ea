-- A pass over a list: a clause that has a right literal holds for good, and the places of the others are put down. Assumes nothing.
use Rattle.std.specs.Prelude.{◌≡◌, ◌⊎◌, Bool, true, false, ℕ, ◌+◌, ◌≤◌, ◌<◌, length, get_or, take, Result, Ok, Err}
use mathlib.Core.List.{List, Memᴰ}
use Rattle.lists.specs.Lists.{any}
use Rattle.cnf.specs.Clauses.{clauses_in}
use Rattle.cnf.specs.Search.{is_right}
use Rattle.sat_literal.specs.Literals.{clause_at}
use Rattle.sat_trail.specs.Trail.{OnePass}
use Rattle.sat_trail.specs.declared.Conflict.{Conflict}
use Rattle.sat_scan.specs.declared.Scanned.{Scanned}

-- a clause of the list stands at the place
pub record StandsAt (ws : List ℕ) (p : ℕ) : Type 0 where
  pub starts : p < length ws
  pub ends : p + 1 + get_or ws p 0 ≤ length ws
  pub clause : Memᴰ (clause_at ws p) (clauses_in ws)

-- every clause has a right literal or stands at one of the places
pub record Left (ws v ps : List ℕ) : Type 0 where
  pub places : (p : ℕ) → Memᴰ p ps → StandsAt ws p
  pub each : (c : List ℕ) → Memᴰ c (clauses_in ws) → (any (is_right v) c ≡ true) ⊎ ((p : ℕ) × Memᴰ p ps × (clause_at ws p ≡ c))

-- how many variables a scan has set, and how many clauses it left
abbrev pub scan_count : Result Scanned Conflict → ℕ
scan_count (Ok s) = s.count
scan_count (Err e) = e.count

abbrev pub scan_kept : Result Scanned Conflict → ℕ
scan_kept (Ok s) = s.kept
scan_kept (Err e) = 0

-- a pass, from values of which the first `start` of the trail are set: where there was room, the first `kept` places are those of the clauses left
pub record Sifts (ws v t : List ℕ) (start : ℕ) (w s room : List ℕ) (isBroken : Bool) (count kept : ℕ) : Type 0 where
  pub pass : OnePass (clauses_in ws) v t start w s isBroken count
  pub left : isBroken ≡ false → kept ≤ length room → Left ws w (take kept room)
