-- `generate::write::put_states` meets its contract: the bytes from here on are still to be written. Assumes nothing.
use Rattle.std.proofs.Common.{◌∙◌, arith}
use Rattle.lists.proofs.Copying as laws
use Rattle.generate_spec.proofs.Bytes.{length-states, state-at}
use Rattle.generate.proofs.write.put_states.Goals as goal

pub states-init : goal.states-init
states-init c = laws.writing (omega (arith, c.requires, length-states c.args.states))

pub bounds-out-q : goal.bounds-out-q
bounds-out-q c =
    omega (arith, c.states-test.true, length-states c.args.states, c.states.invariant.room, laws.same_length c.states.invariant)

pub states-preserved : goal.states-preserved
states-preserved c =
    rw (c.state_byte.ensures ∙ state-at c.args.states c.states.q c.states-test.true) (laws.write_on c.states.invariant (omega (arith, c.states-test.true, length-states c.args.states)))

pub shape_of-out : goal.shape_of-out
shape_of-out c = laws.same_length c.states.invariant

pub returns : goal.returns
returns c = laws.write_all c.states.invariant (omega (arith, c.states-test.false, length-states c.args.states))
