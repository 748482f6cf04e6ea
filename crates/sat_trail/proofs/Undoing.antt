-- Laws for the loop that unsets a part of the trail. Assumes nothing.
use mathlib.Core.Path.{◌≡◌, sym, ap, ◌∙◌}
use mathlib.Core.List.{List, ◌∷◌}
use Prim.Native.Nat.{ℕ, suc, ◌-◌, ◌≤◌, ◌<◌}
use native.Mathlib.Omega.{arith}
use lib.ListN.{length, get_or, set}
use lib.Seq.{slice, slice_empty, slice-cons}
use Rattle.sat_trail.specs.Trail.{unsetting}
use Rattle.sat_trail.proofs.Trails.{length-unsetting}
use Rattle.sat_trail.specs.Undo.{Undoable}

-- ---- a part of the trail is unset

-- the variables from i to count are unset
pub record Undoing (v t : List ℕ) (mark count : ℕ) (w : List ℕ) (i : ℕ) : Type 0 where
  pub from : mark ≤ i
  pub to : i ≤ count
  pub values : w ≡ unsetting v (slice i count t)

module _ {v t : List ℕ} {mark count : ℕ} (u : Undoable v t mark count) where
  pub undoing : Undoing v t mark count v count
  unfolding unsetting
  undoing = record { from = omega (arith, u.inside); to = omega arith; values = ap (unsetting v) (sym (slice_empty count t)) }

  module _ {w : List ℕ} {i : ℕ} (p : Undoing v t mark count w i) where
    pub same_length : length w ≡ length v
    same_length = ap length p.values ∙ length-unsetting v (slice i count t)

    pub undo-below : {x : ℕ} → mark < i → x ≡ get_or t (i - 1) 0 → x < length w
    undo-below h e = omega (arith, u.below (i - 1) (omega (arith, p.to)), same_length)

    pub undo_on : {x : ℕ} → mark < i → x ≡ get_or t (i - 1) 0 → Undoing v t mark count (set w x 2) (i - 1)
    unfolding unsetting
    undo_on h e =
        let next : suc (i - 1) ≡ i = omega arith in
        let first : slice (i - 1) count t ≡ get_or t (i - 1) 0 ∷ slice i count t = slice-cons (i - 1) count t 0 (omega (arith, p.to)) u.room ∙ ap (λ (k : ℕ). get_or t (i - 1) 0 ∷ slice k count t) next in
        record { from = omega arith; to = omega (arith, p.to); values = rw (first, e, p.values) }
