-- `reduce_map::map_of` meets its contract: the states so far are numbered. Assumes nothing.
use mathlib.Core.Path.{ap}
use native.Mathlib.Omega.{arith}
use lib.ListN.{get_or}
use Rattle.reduce_map.proofs.Numbering.{none-numbered, low_small, numbered-joined, numbered-new, numbered-all}
use Rattle.reduce_map.proofs.map_of.Goals as goal

pub states-init : goal.states-init
states-init c = none-numbered _ _

pub bounds-map-from : goal.bounds-map-from
bounds-map-from c =
    omega (arith, c.from.ensures, ap (λ x. get_or c.lowest_joined-low.result x 0) c.from-at.ensures, low_small c.requires.0 c.lowest_joined-low.ensures c.states.invariant c.states-test.true)

pub states-preserved-then-p-q : goal.states-preserved-then-p-q
states-preserved-then-p-q c =
    rw (c.from.ensures, c.from-at.ensures) (numbered-joined c.requires.0 c.lowest_joined-low.ensures c.states.invariant c.states-test.true (rw c.from-at.ensures at c.if-p-q.true))

pub states-preserved : goal.states-preserved
states-preserved c =
    rw c.from-at.ensures (numbered-new c.requires.0 c.lowest_joined-low.ensures c.states.invariant c.states-test.true (rw c.from-at.ensures at c.if-p-q.false))

pub returns : goal.returns
returns c = numbered-all c.states.invariant c.states-test.false
