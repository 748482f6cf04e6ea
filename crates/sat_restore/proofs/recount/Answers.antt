-- `sat_restore::recount` meets its contract. The loop's invariant: the counters are those before the trail's variables from i on were set. Assumes nothing.
use native.Mathlib.Omega.{arith}
use mathlib.Core.Path.{◌≡◌, refl, sym, ◌∙◌}
use Rattle.sat_restore.proofs.Recounting as laws
use Rattle.sat_restore.proofs.recount.Goals as goal

pub trail-init : goal.trail-init
trail-init c =
    (c.requires.trail_mark.1, c.requires.trail_mark.0.before, omega arith, refl)

pub bounds-trail-i : goal.bounds-trail-i
bounds-trail-i c =
    omega (arith, c.trail-test.true, c.trail.invariant.2, c.requires.trail_mark.0.inside, c.requires.trail_mark.0.ready.counted, c.requires.trail_mark.0.ready.room, c.requires.trail_mark.0.most)

pub false_literal-l-requires : goal.false_literal-l-requires
false_literal-l-requires c =
    (laws.variable-inside c.requires.trail_mark.0 c.trail.i c.trail-test.true c.trail.invariant.2, laws.variable-set c.requires.trail_mark.0 c.trail.i c.trail-test.true c.trail.invariant.2)

pub bounds-firsts-l : goal.bounds-firsts-l
bounds-firsts-l c =
    omega (arith, laws.literal-low c.requires.trail_mark.0 c.trail.i c.trail-test.true c.trail.invariant.2 c.false_literal-l.ensures)

pub overflow_add-l : goal.overflow_add-l
overflow_add-l c =
    omega (arith, laws.literal-low c.requires.trail_mark.0 c.trail.i c.trail-test.true c.trail.invariant.2 c.false_literal-l.ensures)

pub bounds-firsts-l-in-trail : goal.bounds-firsts-l-in-trail
bounds-firsts-l-in-trail c =
    omega (arith, laws.literal-low c.requires.trail_mark.0 c.trail.i c.trail-test.true c.trail.invariant.2 c.false_literal-l.ensures)

pub slice_bounds-places-count : goal.slice_bounds-places-count
slice_bounds-places-count c =
    let r = laws.range c.requires.trail_mark.0 c.trail.i c.trail-test.true c.trail.invariant.2 c.false_literal-l.ensures c.requires.indexed.0 c.trail.invariant.0 c.from.ensures c.from-in-trail.ensures in
    omega (arith, c.requires.indexed.1.few, r.0, r.1)

pub slice_bounds-places-start : goal.slice_bounds-places-start
slice_bounds-places-start c =
    let r = laws.range c.requires.trail_mark.0 c.trail.i c.trail-test.true c.trail.invariant.2 c.false_literal-l.ensures c.requires.indexed.0 c.trail.invariant.0 c.from.ensures c.from-in-trail.ensures in
    omega (arith, c.requires.indexed.1.few, r.0, r.1)

pub slice_bounds-places-end : goal.slice_bounds-places-end
slice_bounds-places-end c =
    let r = laws.range c.requires.trail_mark.0 c.trail.i c.trail-test.true c.trail.invariant.2 c.false_literal-l.ensures c.requires.indexed.0 c.trail.invariant.0 c.from.ensures c.from-in-trail.ensures in
    omega (arith, c.requires.indexed.1.few, r.0, r.1)

pub overflow_cast-l : goal.overflow_cast-l
overflow_cast-l c =
    omega (arith, laws.literal-low c.requires.trail_mark.0 c.trail.i c.trail-test.true c.trail.invariant.2 c.false_literal-l.ensures)

pub increment-requires : goal.increment-requires
increment-requires c =
    let r = laws.rises c.requires.trail_mark.0 c.trail.i c.trail-test.true c.trail.invariant.2 c.false_literal-l.ensures c.requires.indexed.0 c.trail.invariant.0 c.from.ensures c.from-in-trail.ensures in
    (r.0, omega (arith, r.1, c.requires.indexed.1.few), omega (arith, c.trail.invariant.3, c.requires.indexed.1.small))

pub trail-preserved : goal.trail-preserved
trail-preserved c =
    (laws.climbed c.requires.trail_mark.0 c.trail.i c.trail-test.true c.trail.invariant.2 c.false_literal-l.ensures c.requires.indexed.0 c.trail.invariant.0 c.from.ensures c.from-in-trail.ensures c.increment.ensures, omega (arith, c.trail-test.true), omega (arith, c.trail-test.true, c.trail.invariant.2), sym c.increment.ensures.long ∙ c.trail.invariant.3)

pub returns : goal.returns
returns c =
    let stop : c.trail.i ≡ c.args.mark = omega (arith, c.trail.invariant.1, c.trail-test.false) in rw (← stop) c.trail.invariant.0
