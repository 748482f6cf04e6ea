-- `sat_propagate::closure::propagate` meets its contract: the queue is empty, or one of the two ways closes the values. Assumes nothing.
use native.Mathlib.Omega.{arith}
use Rattle.sat_trail.proofs.Working.{drained_settles}
use Rattle.equality_propagate.proofs.Queueing.{queueing, queue_end}
use Rattle.sat_counters.proofs.Earlier.{rested-behind}
use Rattle.sat_propagate.proofs.closure.propagate.Goals as goal

pub returns-then-from-start : goal.returns-then-from-start
returns-then-from-start c =
    let r = c.requires.ready in
    record { settles = (drained_settles r (queue_end (queueing r c.requires.queue.0) (omega (arith, c.if-from-start.true))), c.requires.pair_table.1); caught = λ h _. rested-behind r.counted (omega (arith, r.counted, r.room)) c.if-from-start.true (c.requires.counters_before_if h) }

pub propagate_indexed-requires : goal.propagate_indexed-requires
propagate_indexed-requires c =
    record { indexed = (c.requires.prepared.indexed c.if-list-clauses.true, c.requires.prepared.room); ready = c.requires.ready; queue = c.requires.queue; counters_before = c.requires.counters_before_if c.if-list-clauses.true; pair_table = c.requires.pair_table }

pub returns-then-list-clauses : goal.returns-then-list-clauses
returns-then-list-clauses c =
    record { settles = c.propagate_indexed.ensures.settles; caught = λ _. c.propagate_indexed.ensures.caught }

pub propagate_segments-requires : goal.propagate_segments-requires
propagate_segments-requires c =
    let the-queue = c.requires.queue in
    record { marked = (c.requires.prepared.marked c.if-list-clauses.false, the-queue.1); ready = (c.requires.ready, the-queue.0); pair_table = c.requires.pair_table }

pub returns : goal.returns
returns c =
    record { settles = c.propagate_segments.ensures; caught = λ h. absurd (omega (arith, h, c.if-list-clauses.false)) }
