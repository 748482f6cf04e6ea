-- `equality_spread::spread` meets its contract. The loop's invariant: what was set are unit steps by group 2, and each state of the word is still to come or
-- has its pair set. Assumes nothing.
use mathlib.Core.Path.{refl, ◌∙◌}
use native.Mathlib.Omega.{arith}
use Rattle.equality_spread.proofs.Spreading as laws
use Rattle.equality_spread.proofs.spread.Goals as goal

pub states-init : goal.states-init
states-init c =
    laws.spreading c.requires.ready.0 c.requires.ready.1 c.requires.spreads c.ranges.todo.fits

pub overflow_cast-s : goal.overflow_cast-s
overflow_cast-s c =
    record { fits = omega (arith, laws.low-state c.requires.spreads c.states.invariant c.states-test.true c.next_state-s.ensures, c.states.invariant.rows.few) }

pub bounds-values-from : goal.bounds-values-from
bounds-values-from c =
    let place = c.from.ensures ∙ c.variable_of-v.ensures in
    let met = laws.meet c.requires.ready.0 c.requires.spreads c.states.invariant c.states-test.true c.next_state-s.ensures c.later_states-rest.ensures place in
    laws.place_inside met

pub put-count-requires : goal.put-count-requires
put-count-requires c =
    let place = c.from.ensures ∙ c.variable_of-v.ensures in
    let met = laws.meet c.requires.ready.0 c.requires.spreads c.states.invariant c.states-test.true c.next_state-s.ensures c.later_states-rest.ensures place in
    ((laws.bounds met).0, (laws.bounds met).1, rw c.variable_of-v.ensures (laws.inside met), laws.can_put met refl c.if-y-eq2.true)

pub states-smaller-then-y-eq2 : goal.states-smaller-then-y-eq2
states-smaller-then-y-eq2 c =
    let place = c.from.ensures ∙ c.variable_of-v.ensures in
    let met = laws.meet c.requires.ready.0 c.requires.spreads c.states.invariant c.states-test.true c.next_state-s.ensures c.later_states-rest.ensures place in
    laws.rest-less met

pub states-preserved-then-y-eq2 : goal.states-preserved-then-y-eq2
states-preserved-then-y-eq2 c =
    let place = c.from.ensures ∙ c.variable_of-v.ensures in
    let met = laws.meet c.requires.ready.0 c.requires.spreads c.states.invariant c.states-test.true c.next_state-s.ensures c.later_states-rest.ensures place in
    laws.spread_put met refl c.if-y-eq2.true c.variable_of-v.ensures c.put-count.ensures

pub returns-then-y-x : goal.returns-then-y-x
returns-then-y-x c =
    let place = c.from.ensures ∙ c.variable_of-v.ensures in
    let met = laws.meet c.requires.ready.0 c.requires.spreads c.states.invariant c.states-test.true c.next_state-s.ensures c.later_states-rest.ensures place in
    laws.spread_broken met refl c.if-y-eq2.false c.if-y-x.true

pub states-smaller : goal.states-smaller
states-smaller c =
    let place = c.from.ensures ∙ c.variable_of-v.ensures in
    let met = laws.meet c.requires.ready.0 c.requires.spreads c.states.invariant c.states-test.true c.next_state-s.ensures c.later_states-rest.ensures place in
    laws.rest-less met

pub states-preserved : goal.states-preserved
states-preserved c =
    let place = c.from.ensures ∙ c.variable_of-v.ensures in
    let met = laws.meet c.requires.ready.0 c.requires.spreads c.states.invariant c.states-test.true c.next_state-s.ensures c.later_states-rest.ensures place in
    laws.spread_skip met refl c.if-y-x.false

pub returns : goal.returns
returns c = laws.spread_end c.states.invariant c.states-test.false
