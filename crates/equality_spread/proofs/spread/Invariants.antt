-- `equality_spread::spread` meets its contract. The loop's invariant: what was set are unit steps by group 2, and each state of the word is still to come or
-- has its pair set. Assumes nothing.
use Rattle.equality_spread.proofs.Spreading as laws
use Rattle.equality_spread.proofs.spread.Given as goal

abbrev pub invariant-states : goal.invariant-states
invariant-states l =
    laws.Spreading l.n l.initial.values l.initial.trail l.start l.q l.todo l.x l.values l.trail l.count l.rows.joined l.rows.apart l.rest

abbrev pub decreases-states : goal.decreases-states
decreases-states l =
    l.rest
