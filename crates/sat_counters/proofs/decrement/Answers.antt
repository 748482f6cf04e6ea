-- `sat_counters::decrement` meets its contract. The loop's invariant: the weight of the places ahead is still to be taken, and a clause after is noted where at most one
-- literal is left. Assumes nothing.
use borrow.Author.Rules.{rules}
use mathlib.Core.Path.{refl, ◌∙◌}
use native.Mathlib.Omega.{arith}
use Prim.Native.Nat.{◌-◌}
use lib.ListN.{get_or, length-set}
use Rattle.sat_counters.proofs.Taking as laws
use Rattle.sat_counters.proofs.decrement.Goals as goal
use Rattle.sat_counters.proofs.decrement.Goals.{else-left-lt4096, then-left-lt4096}

pub places-init : goal.places-init
places-init c =
    (laws.taking _ _ _, laws.noting _ c.requires.1, refl)

pub bounds-counters-from : goal.bounds-counters-from
bounds-counters-from c =
    let the-taken = c.places-test.true in
    search (rules, laws.place_inside c.requires.0 c.places.invariant.0 the-taken)

pub overflow_sub-left : goal.overflow_sub-left
overflow_sub-left c =
    let the-taken = c.places-test.true in
    search (rules, laws.place-enough c.requires.0 c.places.invariant.0 the-taken)

pub bounds-counters-from-in-places : goal.bounds-counters-from-in-places
bounds-counters-from-in-places c =
    let the-taken = c.places-test.true in
    search (rules, laws.place_inside c.requires.0 c.places.invariant.0 the-taken)

pub places-preserved : goal.places-preserved
places-preserved c =
    let the-taken = c.places-test.true in
    let the-clause = get_or c.args.places.now c.places.place-index 0 in
    let the-left = get_or c.places.counters c.from.result 0 - c.from-weight.result in
    let the-next = laws.take_on c.requires.0 c.places.invariant.0 the-taken {c = the-clause} refl (rw (c.from.ensures, c.from-weight.ensures)) in
    let the-length = length-set c.places.noted c.places.count the-clause ∙ c.places.invariant.2 in
    elim c.if-left-lt4096.branch [ then-left-lt4096 w ↦ rw (c.from-in-places.ensures, w.count-is) (the-next, laws.note_it c.places.invariant.1 the-taken refl the-left (laws.place_inside c.requires.0 c.places.invariant.0 the-taken) w.if-left-lt4096.true, the-length) | else-left-lt4096 w ↦ rw (c.from-in-places.ensures, w.count-is) (the-next, laws.pass_it c.places.invariant.1 the-taken refl the-left (laws.place_inside c.requires.0 c.places.invariant.0 the-taken) w.if-left-lt4096.false (rw c.from.ensures (omega arith)), the-length) ]

pub returns : goal.returns
returns c =
    let the-inv = c.places.invariant in
    record { fell = laws.taken the-inv.0 c.places-test.false; noted = laws.all_noted the-inv.1 the-inv.0.inside c.places-test.false }
