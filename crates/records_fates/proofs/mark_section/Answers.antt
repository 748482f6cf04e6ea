-- `records_fates::mark_section` meets its contract: the marks of the classes passed are written. Assumes nothing.
use Prim.Native.Nat.{◌-◌, ◌<◌}
use native.Mathlib.Omega.{arith}
use Rattle.table_spec.specs.Maps.{classes}
use Rattle.records_fates.proofs.Passing.{telling, class_told, section_told}
use Rattle.records_fates.proofs.mark_section.Goals as goal

pub classes-init : goal.classes-init
classes-init c = telling _ _ _ _ _ _ _ c.requires.3

pub overflow_add-stamp : goal.overflow_add-stamp
overflow_add-stamp c =
    let within : c.classes.class < classes c.args.map.now = omega (arith, c.classes-test.true, c.class_count-classes.ensures) in
    omega (arith, within, c.classes.invariant.stamps, c.requires.2, c.requires.0.few-classes)

pub mark_class-requires : goal.mark_class-requires
mark_class-requires c =
    let i = c.classes.invariant in
    record { fitting = (c.requires.0, c.ends_of-ends.ensures, omega (arith, c.requires.1, i.long)); stamp_nonzero = (omega arith, record { places = i.small.places; small = λ p. omega (arith, i.small.small p) }) }

pub classes-preserved : goal.classes-preserved
classes-preserved c =
    let within : c.classes.class < classes c.args.map.now = omega (arith, c.classes-test.true, c.class_count-classes.ensures) in
    class_told c.classes.invariant within c.mark_class.ensures

pub shape_of-out : goal.shape_of-out
shape_of-out c = c.classes.invariant.long

pub returns : goal.returns
returns c =
    section_told c.classes.invariant c.requires.0 c.requires.1 (omega (arith, c.classes-test.false, c.class_count-classes.ensures))
