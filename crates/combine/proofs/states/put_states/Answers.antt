-- `combine::states::put_states` meets its contract: the bytes from here on are still to be written. Assumes nothing.
use native.Mathlib.Omega.{arith}
use Rattle.lists.proofs.Copying as laws
use Rattle.combine.proofs.StateBytes.{bytes-long}
use Rattle.combine.proofs.states.put_states.Goals as goal

pub states-init : goal.states-init
states-init c =
    laws.writing (omega (arith, c.requires.0, c.requires.1, bytes-long c.args.first.now c.args.second.now c.args.how))

pub state_byte-requires : goal.state_byte-requires
state_byte-requires c =
    omega (arith, c.states-test.true, c.requires.0)

pub bounds-out-q : goal.bounds-out-q
bounds-out-q c =
    omega (arith, c.states-test.true, c.requires.0, bytes-long c.args.first.now c.args.second.now c.args.how, c.states.invariant.room, laws.same_length c.states.invariant)

pub states-preserved : goal.states-preserved
states-preserved c =
    rw c.state_byte.ensures (laws.write_on c.states.invariant (omega (arith, c.states-test.true, c.requires.0, bytes-long c.args.first.now c.args.second.now c.args.how)))

pub shape_of-out : goal.shape_of-out
shape_of-out c =
    laws.same_length c.states.invariant

pub returns : goal.returns
returns c =
    laws.write_all c.states.invariant (omega (arith, c.states-test.false, c.requires.0, bytes-long c.args.first.now c.args.second.now c.args.how))
