-- A law for the counters where a guess is undone: they are those before it. Assumes nothing.
use mathlib.Core.Path.{◌≡◌, refl, sym, ap, ◌∙◌, subst}
use mathlib.Core.List.{List, ◌∷◌}
use Prim.Native.Nat.{ℕ, ◌+◌, ◌≤◌, ◌<◌}
use native.Mathlib.Numerals.{add-one}
use native.Mathlib.Omega.{arith}
use lib.ListN.{length, get_or, set, length-set}
use lib.Seq.{slice, slice-cons, set-set}
use Rattle.sat_trail.specs.Trail.{unsetting}
use Rattle.sat_trail.proofs.Trails.{length-unsetting}
use Rattle.sat_trail.specs.Undo.{Undone}
use Rattle.sat_counters.specs.Counters.{CountersOf}
use Rattle.sat_counters.specs.Earlier.{earlier, CountersBefore}
use Rattle.sat_counters.proofs.Earlier.{one-there}

pub behind_undone :
    {ws w s counters v : List ℕ} {mark more x : ℕ} → mark < more → more ≤ length s → Undone w s mark more v x → CountersBefore ws w s mark more counters
    → CountersBefore ws v s mark (mark + 1) counters
unfolding unsetting
behind_undone {ws} {w} {s} {counters} {v} {mark} {more} {x} h room n b = record {
  tallied = subst (λ (u : List ℕ). CountersOf ws u counters) (sym then) b.tallied;
  counted = rw then (omega (arith, b.counted, ap length n.values, length-set (unsetting w (slice mark more s)) x 0, length-unsetting w (slice mark more s)));
}
  where
    u : List ℕ
    u = unsetting w (slice (mark + 1) more s)

    first : unsetting w (slice mark more s) ≡ set u (get_or s mark 0) 2
    first = let one : slice mark more s ≡ get_or s mark 0 ∷ slice (mark + 1) more s = rw add-one (slice-cons mark more s 0 h room) in ap (unsetting w) one

    then : earlier v s mark (mark + 1) ≡ earlier w s mark more
    then =
        ap (unsetting v) (one-there s mark (omega (arith, h, room)))
        ∙ ap (λ (y : List ℕ). set y (get_or s mark 0) 2) (n.values ∙ ap (set (unsetting w (slice mark more s)) x) refl)
        ∙ rw n.variable (set-set (unsetting w (slice mark more s)) (get_or s mark 0) 0 2 ∙ rw first (set-set u (get_or s mark 0) 2 2))
