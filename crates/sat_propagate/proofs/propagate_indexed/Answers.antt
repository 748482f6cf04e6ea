-- `sat_propagate::propagate_indexed` meets its contract. The loop's invariant: what was set are unit steps, the clauses wait for the rest of the queue only, and the counters
-- are those before the rest of the queue was set. Assumes nothing.
use native.Mathlib.Omega.{arith}
use Prim.Native.Nat.{◌≤◌, ◌<◌}
use mathlib.Core.Path.{sym, ◌∙◌}
use Rattle.std.proofs.Common.{rules, ◌≡◌, refl, Err}
use mathlib.Core.Bool.{true≢false}
use lib.ListN.{length}
use lib.Seq.{length-take-le}
use Rattle.sat_trail.proofs.Working.{drained_settles}
use Rattle.equality_propagate.proofs.Queueing as laws
use Rattle.sat_passes.proofs.Attending as groups
use Rattle.sat_propagate.proofs.Indexed as sink
use Rattle.sat_propagate.proofs.propagate_indexed.Goals as goal

-- ---- the needs

pub queue-init : goal.queue-init
queue-init c =
    let p = c.requires in
    (record { queueing = laws.queueing p.ready p.queue.0 }, p.pair_table.1, p.counters_before, refl, refl)

pub bounds-trail-at : goal.bounds-trail-at
bounds-trail-at c = laws.at-inside c.queue.invariant.0.queueing c.queue-test.true

pub overflow_add-at : goal.overflow_add-at
overflow_add-at c =
    let place : c.queue.at < 780 = let j = c.queue.invariant.0.queueing in
    omega (arith, laws.at_small j c.queue-test.true, laws.queue-values j, c.requires.queue.1) in
    omega (arith, place)

pub conclude-requires : goal.conclude-requires
conclude-requires c =
    let i = c.queue.invariant in
    let h = c.queue-test.true in
    record { ready = (groups.first-ready i.0 h, i.1); pair_table = c.requires.pair_table.0; x_in_bounds = laws.next-queued i.0.queueing h }

pub returns-in_err-more : goal.returns-in_err-more
returns-in_err-more c =
    let e : c.from_residual.result ≡ Err c.in_err-more.field-0.0 = search rules in
    let j = c.queue.invariant.0.queueing in
    let k = c.in_err-more.ensures in
    let seen = groups.first-broken c.queue.invariant.0 c.queue-test.true k.0 refl in
    rw e (record { settles = (drained_settles j.ready (laws.queue-broken j c.queue-test.true seen refl), k.1); caught = λ z. absurd (true≢false z) })

pub false_literal-l-requires : goal.false_literal-l-requires
false_literal-l-requires c =
    let i = c.queue.invariant in
    sink.variable-set i.0 c.requires.queue.1 i.2 c.queue-test.true c.in_ok-more.ensures.0

pub offset_bounds-firsts-l : goal.offset_bounds-firsts-l
offset_bounds-firsts-l c =
    let literal-low : c.false_literal-l.result < 1560 = let i = c.queue.invariant in
    sink.literal-low i.0 c.requires.queue.1 i.2 c.queue-test.true c.in_ok-more.ensures.0 c.false_literal-l.ensures in
    omega (arith, literal-low)

pub bounds-firsts-l : goal.bounds-firsts-l
bounds-firsts-l c =
    let literal-low : c.false_literal-l.result < 1560 = let i = c.queue.invariant in
    sink.literal-low i.0 c.requires.queue.1 i.2 c.queue-test.true c.in_ok-more.ensures.0 c.false_literal-l.ensures in
    omega (arith, literal-low)

pub overflow_add-l : goal.overflow_add-l
overflow_add-l c =
    let literal-low : c.false_literal-l.result < 1560 = let i = c.queue.invariant in
    sink.literal-low i.0 c.requires.queue.1 i.2 c.queue-test.true c.in_ok-more.ensures.0 c.false_literal-l.ensures in
    omega (arith, literal-low)

pub offset_bounds-firsts-l-in-queue : goal.offset_bounds-firsts-l-in-queue
offset_bounds-firsts-l-in-queue c =
    let literal-low : c.false_literal-l.result < 1560 = let i = c.queue.invariant in
    sink.literal-low i.0 c.requires.queue.1 i.2 c.queue-test.true c.in_ok-more.ensures.0 c.false_literal-l.ensures in
    omega (arith, literal-low)

pub bounds-firsts-l-in-queue : goal.bounds-firsts-l-in-queue
bounds-firsts-l-in-queue c =
    let literal-low : c.false_literal-l.result < 1560 = let i = c.queue.invariant in
    sink.literal-low i.0 c.requires.queue.1 i.2 c.queue-test.true c.in_ok-more.ensures.0 c.false_literal-l.ensures in
    omega (arith, literal-low)

pub slice_bounds-places-count : goal.slice_bounds-places-count
slice_bounds-places-count c =
    let range : (c.from.result ≤ c.from-in-queue.result) × (c.from-in-queue.result ≤ length c.args.clauses.now) × (c.from-in-queue.result ≤ 32768) = let i = c.queue.invariant in
    let p = c.requires.indexed in
    let r = sink.range i.0 c.requires.queue.1 i.2 c.queue-test.true c.in_ok-more.ensures.0 c.false_literal-l.ensures p.0 c.from.ensures c.from-in-queue.ensures in
    (r.0, r.1, omega (arith, r.1, p.1.noted-room, p.1.short)) in
    omega (arith, range)

pub slice_bounds-places-start : goal.slice_bounds-places-start
slice_bounds-places-start c =
    let range : (c.from.result ≤ c.from-in-queue.result) × (c.from-in-queue.result ≤ length c.args.clauses.now) × (c.from-in-queue.result ≤ 32768) = let i = c.queue.invariant in
    let p = c.requires.indexed in
    let r = sink.range i.0 c.requires.queue.1 i.2 c.queue-test.true c.in_ok-more.ensures.0 c.false_literal-l.ensures p.0 c.from.ensures c.from-in-queue.ensures in
    (r.0, r.1, omega (arith, r.1, p.1.noted-room, p.1.short)) in
    omega (arith, range)

pub slice_bounds-places-end : goal.slice_bounds-places-end
slice_bounds-places-end c =
    let range : (c.from.result ≤ c.from-in-queue.result) × (c.from-in-queue.result ≤ length c.args.clauses.now) × (c.from-in-queue.result ≤ 32768) = let i = c.queue.invariant in
    let p = c.requires.indexed in
    let r = sink.range i.0 c.requires.queue.1 i.2 c.queue-test.true c.in_ok-more.ensures.0 c.false_literal-l.ensures p.0 c.from.ensures c.from-in-queue.ensures in
    (r.0, r.1, omega (arith, r.1, p.1.noted-room, p.1.short)) in
    omega (arith, range)

pub overflow_cast-l : goal.overflow_cast-l
overflow_cast-l c =
    let literal-low : c.false_literal-l.result < 1560 = let i = c.queue.invariant in
    sink.literal-low i.0 c.requires.queue.1 i.2 c.queue-test.true c.in_ok-more.ensures.0 c.false_literal-l.ensures in
    omega (arith, literal-low)

pub decrement-few-requires : goal.decrement-few-requires
decrement-few-requires c =
    let i = c.queue.invariant in
    let p = c.requires.indexed in
    let f = sink.falls i.0 c.requires.queue.1 i.2 c.queue-test.true c.in_ok-more.ensures.0 c.false_literal-l.ensures p.0 c.from.ensures c.from-in-queue.ensures in
    (f.0, omega (arith, f.1, p.1.noted-room, i.4), omega (arith, p.1.short, i.4), omega (arith, p.1.few, i.3))

pub slice_bounds-propagate_units-end-in-queue : goal.slice_bounds-propagate_units-end-in-queue
slice_bounds-propagate_units-end-in-queue c = sym (length-take-le _ _ c.decrement-few.ensures.noted.few)

pub propagate_units-requires : goal.propagate_units-requires
propagate_units-requires c =
    let decrement_lengths : (length c.decrement-few.new.counters ≡ length c.args.counters.now) × (length c.decrement-few.new.noted ≡ length c.args.noted.now) = let i = c.queue.invariant in
    (c.decrement-few.ensures.fell.long ∙ i.3, c.decrement-few.auto.noted ∙ i.4) in
    let i = c.queue.invariant in
    let h = c.queue-test.true in
    let k = c.in_ok-more.ensures in
    let told = sink.told i.0 c.requires.queue.1 i.2 h k.0 c.false_literal-l.ensures c.requires.indexed.0 c.from.ensures c.from-in-queue.ensures c.decrement-few.ensures.fell c.decrement-few.ensures.noted in
    record { ready = (groups.then_ready i.0 h k.0, omega (arith, groups.then-length i.0 h k.0, c.requires.queue.1)); units_noted = told (omega (arith, decrement_lengths.1, c.requires.indexed.1.short)) (omega (arith, i.3, c.requires.indexed.1.few)); pair_table = (c.requires.pair_table.0, k.1) }

pub returns-in_err-count : goal.returns-in_err-count
returns-in_err-count c =
    let e : c.from_residual-in_err-count.result ≡ Err c.in_err-count.field-0.0 = search rules in
    let i = c.queue.invariant in
    let h = c.queue-test.true in
    let k = c.in_ok-more.ensures.0 in
    let seen = groups.both-seen i.0 h k refl (sink.seen i.0 c.requires.queue.1 i.2 h k c.false_literal-l.ensures c.requires.indexed.0 c.from.ensures c.from-in-queue.ensures c.decrement-few.ensures.fell c.decrement-few.ensures.noted c.in_err-count.ensures.0) in
    let j = i.0.queueing in
    rw e (record { settles = (drained_settles j.ready (laws.queue-broken j h seen refl), c.in_err-count.ensures.1); caught = λ z. absurd (true≢false z) })

pub queue-smaller : goal.queue-smaller
queue-smaller c =
    let i = c.queue.invariant in
    let h = c.queue-test.true in
    let k = c.in_ok-more.ensures.0 in
    let seen = groups.both-seen i.0 h k refl (sink.seen i.0 c.requires.queue.1 i.2 h k c.false_literal-l.ensures c.requires.indexed.0 c.from.ensures c.from-in-queue.ensures c.decrement-few.ensures.fell c.decrement-few.ensures.noted c.in_ok-count.ensures.0) in
    laws.queue-less i.0.queueing h seen

pub queue-preserved : goal.queue-preserved
queue-preserved c =
    let i = c.queue.invariant in
    let h = c.queue-test.true in
    let k = c.in_ok-more.ensures.0 in
    let seen = groups.both-seen i.0 h k refl (sink.seen i.0 c.requires.queue.1 i.2 h k c.false_literal-l.ensures c.requires.indexed.0 c.from.ensures c.from-in-queue.ensures c.decrement-few.ensures.fell c.decrement-few.ensures.noted c.in_ok-count.ensures.0) in
    let on = sink.sinks_on i.0 c.requires.queue.1 i.2 h k c.false_literal-l.ensures c.requires.indexed.0 c.from.ensures c.from-in-queue.ensures c.decrement-few.ensures.fell c.decrement-few.ensures.noted c.in_ok-count.ensures.0 in
    (record { queueing = laws.queue_on i.0.queueing h seen refl }, c.in_ok-count.ensures.1, on, c.decrement-few.ensures.fell.long ∙ i.3, c.decrement-few.auto.noted ∙ i.4)

pub returns : goal.returns
returns c =
    let i = c.queue.invariant in
    let j = i.0.queueing in
    record { settles = (drained_settles j.ready (laws.queue_end j c.queue-test.false), i.1); caught = λ _. sink.sunk i.0 c.requires.queue.1 i.2 c.queue-test.false }
