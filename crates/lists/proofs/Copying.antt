-- Elements put one by one at the front of a buffer: what stands there after some of them. Assumes nothing.
use mathlib.Core.Path.{◌≡◌, refl, ap, ◌∙◌}
use mathlib.Core.List.{List, ◌++◌}
use Prim.Native.Nat.{ℕ, suc, ◌+◌, ◌≤◌, ◌<◌}
use native.Mathlib.Numerals.{add-one}
use native.Mathlib.Omega.{arith}
use lib.ListN.{length, get_or, set, take, drop, length-append, length-drop}
use lib.Seq.{take_all, take-suc, drop-cons, set_at, append_snoc, length-take-le}
use Rattle.lists.specs.Lists.{over}

pub length_over : (xs buffer : List ℕ) → length xs ≤ length buffer → length (over xs buffer) ≡ length buffer
unfolding over
length_over xs buffer h = omega (arith, length-append xs (drop (length xs) buffer), length-drop (length xs) buffer)

pub record Writing (vs old new : List ℕ) (i : ℕ) : Type 0 where
  pub inside : i ≤ length vs
  pub room : length vs ≤ length old
  pub meets : new ≡ take i vs ++ drop i old

pub writing : {vs old : List ℕ} → length vs ≤ length old → Writing vs old old 0
writing h = record { inside = omega arith; room = h; meets = refl }

module _ {vs old new : List ℕ} {i : ℕ} (w : Writing vs old new i) where
  pub same_length : length new ≡ length old
  same_length = omega (arith, ap length w.meets ∙ length-append (take i vs) (drop i old), length-take-le i vs w.inside, length-drop i old, w.room)

  pub write_on : i < length vs → Writing vs old (set new i (get_or vs i 0)) (i + 1)
  write_on h = record { inside = omega arith; room = w.room; meets = stored }
    where
      stored : set new i (get_or vs i 0) ≡ take (i + 1) vs ++ drop (i + 1) old
      stored =
          rw (w.meets, drop-cons old i 0 (omega (arith, w.room)), add-one, take-suc vs i 0 h, append_snoc)
          (set_at (take i vs) (get_or old i 0) (drop (suc i) old) (get_or vs i 0) i (length-take-le i vs w.inside))

  pub write_all : length vs ≤ i → new ≡ over vs old
  unfolding over
  write_all h = let e : i ≡ length vs = omega (arith, w.inside) in w.meets ∙ rw (take_all i vs h, e)

-- a copy of all the elements, as the library's copying says it
pub copied : (vs old : List ℕ) {new : List ℕ} → new ≡ take (length vs) vs ++ drop (length vs) old → new ≡ over vs old
unfolding over
copied vs old e = e ∙ ap (λ (xs : List ℕ). xs ++ drop (length vs) old) (take_all (length vs) vs (omega arith))
