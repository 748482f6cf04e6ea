-- Laws for the loop that unsets a part of the trail with the words, and for the guess that is set false after it. Assumes nothing.
use mathlib.Core.Path.{◌≡◌, ap, ◌∙◌}
use mathlib.Core.List.{List}
use Prim.Native.Nat.{ℕ, suc, ◌-◌, ◌≤◌, ◌<◌}
use native.Mathlib.Omega.{arith}
use lib.ListN.{length, get_or, set}
use lib.Seq.{slice, slice-cons, get_or-set_same}
use Rattle.cnf.specs.Clauses.{value_of}
use Rattle.sat_trail.specs.Trail.{unsetting}
use Rattle.sat_trail.specs.Rows.{Rows, Settable, Assigned}
use Rattle.sat_trail.proofs.Trails.{length-unsetting}
use Rattle.sat_trail.specs.Undo.{Undoable, Unwound, Undone}
use Rattle.sat_trail.proofs.Undoing.{Undoing, undoing, undo_on, undo-below}

-- the variables from i to count are unset
pub record Unwinding (n : ℕ) (v t : List ℕ) (mark count : ℕ) (w joined apart : List ℕ) (i : ℕ) : Type 0 where
  pub undone : Undoing v t mark count w i
  pub rows : Rows n w joined apart

module _ {n : ℕ} {v t : List ℕ} {mark count : ℕ} (u : Undoable v t mark count) where
  pub unwinding : {joined apart : List ℕ} → Rows n v joined apart → Unwinding n v t mark count v joined apart count
  unwinding o = record { undone = undoing u; rows = o }

  module _ {w joined apart : List ℕ} {i : ℕ} (p : Unwinding n v t mark count w joined apart i) where
    pub undo-to-inside : mark < i → i - 1 < length t
    undo-to-inside h = omega (arith, p.undone.to, u.room)

    module _ {x : ℕ} (h : mark < i) (e : x ≡ get_or t (i - 1) 0) where
      pub undo-to-below : x < length w
      undo-to-below = undo-below u p.undone h e

      pub undo-to_on : {w' joined' apart' : List ℕ} → Assigned n w x 2 w' joined' apart' → Unwinding n v t mark count w' joined' apart' (i - 1)
      undo-to_on a = record { undone = rw a.values (undo_on u p.undone h e); rows = a.rows }

    pub undo-to_end : i ≤ mark → Unwound n v t mark count w joined apart
    undo-to_end h =
        let last : i ≡ mark = omega (arith, p.undone.from) in
        record { values = rw (p.undone.values, last); rows = p.rows }

  -- ---- the guess is set false

  module _ {w joined apart : List ℕ} (p : Unwound n v t mark count w joined apart) where
    unwound_length : length w ≡ length v
    unwound_length = ap length p.values ∙ length-unsetting v (slice mark count t)

    guess_below : get_or t mark 0 < length w
    guess_below = omega (arith, u.below mark u.inside, unwound_length)

    pub flippable : Settable n w joined apart (get_or t mark 0) 0
    unfolding unsetting
    flippable = record { rows = p.rows; inside = guess_below; unset = is_unset_lem; small = omega arith }
      where
        rest : List ℕ
        rest = slice (suc mark) count t

        first : w ≡ set (unsetting v rest) (get_or t mark 0) 2
        first = p.values ∙ ap (unsetting v) (slice-cons mark count t 0 u.inside u.room)

        is_unset_lem : value_of w (get_or t mark 0) ≡ 2
        is_unset_lem = ap (λ (y : List ℕ). value_of y (get_or t mark 0)) first ∙ get_or-set_same (unsetting v rest) (get_or t mark 0) 2 2 (omega (arith, u.below mark u.inside, length-unsetting v rest))

    pub flipped : {x : ℕ} {w' joined' apart' : List ℕ} → Assigned n w (get_or t mark 0) 0 w' joined' apart' → x ≡ get_or t mark 0 → Undone v t mark count w' x × Rows n w' joined' apart'
    flipped a e = (record { variable = e; values = a.values ∙ rw (e, p.values) }, a.rows)
