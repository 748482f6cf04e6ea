-- Undoing: what unsetting the trail back to a mark promises. Assumes nothing.
use Rattle.std.specs.Prelude.{◌≡◌, List, ℕ, ◌≤◌, ◌<◌, length, get_or, set}
use Rattle.std.proofs.Math.Seq.{slice}
use Rattle.sat_trail.specs.Trail.{unsetting}
use Rattle.sat_trail.specs.Rows.{Rows}

-- the first count variables of the trail t are variables of v, and one of them is at mark
pub record Undoable (v t : List ℕ) (mark count : ℕ) : Type 0 where
  pub inside : mark < count
  pub room : count ≤ length t
  pub below : (i : ℕ) → i < count → get_or t i 0 < length v

-- the variables of the trail from mark on are unset
pub record Unwound (n : ℕ) (v t : List ℕ) (mark count : ℕ) (w joined apart : List ℕ) : Type 0 where
  pub values : w ≡ unsetting v (slice mark count t)
  pub rows : Rows n w joined apart

-- "undo the latest guess and all set after it, and set its variable false": the guess is at mark
pub record Undone (v t : List ℕ) (mark count : ℕ) (w : List ℕ) (x : ℕ) : Type 0 where
  pub variable : x ≡ get_or t mark 0
  pub values : w ≡ set (unsetting v (slice mark count t)) x 0
