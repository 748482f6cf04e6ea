-- `quotient::states::put_states` meets its contract: the bytes of the classes from here on are still to be written. Assumes nothing.
use Rattle.table_spec.specs.File.{of_states}
use Rattle.lists.proofs.Copying as laws
use Rattle.quotient.proofs.ClassBytes.{length-bytes, byte_of-class}
use native.Mathlib.Omega.{arith}
use mathlib.Core.Path.{◌∙◌}
use Rattle.quotient.proofs.states.put_states.Goals as goal

pub classes-init : goal.classes-init
classes-init c = laws.writing (omega (arith, c.requires.1, length-bytes (of_states c.args.states.now) c.args.map.now c.args.classes))

pub bounds-out-c : goal.bounds-out-c
bounds-out-c c =
    omega (arith, c.classes-test.true, length-bytes (of_states c.args.states.now) c.args.map.now c.args.classes, c.classes.invariant.room, laws.same_length c.classes.invariant)

pub classes-preserved : goal.classes-preserved
classes-preserved c =
    let byte = c.class_byte.ensures ∙ byte_of-class (of_states c.args.states.now) c.args.map.now c.args.classes c.classes.c c.classes-test.true in
    rw byte (laws.write_on c.classes.invariant (omega (arith, c.classes-test.true, length-bytes (of_states c.args.states.now) c.args.map.now c.args.classes)))

pub shape_of-out : goal.shape_of-out
shape_of-out c = laws.same_length c.classes.invariant

pub returns : goal.returns
returns c = laws.write_all c.classes.invariant (omega (arith, c.classes-test.false, length-bytes (of_states c.args.states.now) c.args.map.now c.args.classes))
