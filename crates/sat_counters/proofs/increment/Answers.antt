-- `sat_counters::increment` meets its contract. The loop's invariant: the weight of the places ahead is still to be given back. Assumes nothing.
use borrow.Author.Rules.{rules}
use Rattle.sat_counters.proofs.Taking as laws
use Rattle.sat_counters.proofs.increment.Goals as goal

pub places-init : goal.places-init
places-init c = laws.giving _ _ _

pub bounds-counters-from : goal.bounds-counters-from
bounds-counters-from c =
    let the-taken = c.places-test.true in
    search (rules, laws.give_inside c.requires.0 c.places.invariant the-taken)

pub overflow_add-counters : goal.overflow_add-counters
overflow_add-counters c =
    let the-taken = c.places-test.true in
    search (rules, laws.give_room c.requires.0 c.places.invariant the-taken)

pub bounds-counters-from-in-places : goal.bounds-counters-from-in-places
bounds-counters-from-in-places c =
    let the-taken = c.places-test.true in
    search (rules, laws.give_inside c.requires.0 c.places.invariant the-taken)

pub places-preserved : goal.places-preserved
places-preserved c =
    let the-taken = c.places-test.true in
    laws.give_on c.requires.0 c.places.invariant the-taken c.from.ensures (rw c.from-weight.ensures)

pub returns : goal.returns
returns c = laws.given_back c.places.invariant c.places-test.false
