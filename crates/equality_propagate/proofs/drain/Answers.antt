-- `equality_propagate::drain` meets its contract. The loop's invariant: what was set are unit steps by group 2, which waits for the rest of the queue only. Assumes nothing.
use Rattle.std.proofs.Common.{rules, ◌≡◌, refl, Err}
use native.Mathlib.Omega.{arith}
use Rattle.equality_propagate.proofs.Queueing as laws
use Rattle.equality_propagate.proofs.drain.Goals as goal

pub queue-init : goal.queue-init
queue-init c =
    (laws.queueing c.requires.ready.0 c.requires.pair_table.1, c.requires.ready.1)

pub bounds-trail-at : goal.bounds-trail-at
bounds-trail-at c = laws.at-inside c.queue.invariant.0 c.queue-test.true

pub overflow_add-at : goal.overflow_add-at
overflow_add-at c = omega (arith, laws.at-inside c.queue.invariant.0 c.queue-test.true)

pub conclude-requires : goal.conclude-requires
conclude-requires c =
    let i = c.queue.invariant in
    record { ready = (laws.queue-ready i.0, i.1); pair_table = c.requires.pair_table.0; x_in_bounds = laws.next-queued i.0 c.queue-test.true }

pub queue-smaller : goal.queue-smaller
queue-smaller c =
    laws.queue-less c.queue.invariant.0 c.queue-test.true (laws.attended_seen _ c.in_ok-count.ensures.0)

pub queue-preserved : goal.queue-preserved
queue-preserved c =
    (laws.queue_on c.queue.invariant.0 c.queue-test.true (laws.attended_seen _ c.in_ok-count.ensures.0) refl, c.conclude.ensures.1)

pub returns : goal.returns
returns c =
    (laws.queue_end c.queue.invariant.0 c.queue-test.false, c.queue.invariant.1)

pub returns-in_err-count : goal.returns-in_err-count
returns-in_err-count c =
    let e : c.from_residual.result ≡ Err c.in_err-count.field-0.0 = search rules in
    let k = c.in_err-count.ensures in
    rw e (laws.queue-broken c.queue.invariant.0 c.queue-test.true (laws.attended_seen _ k.0) refl, k.1)
