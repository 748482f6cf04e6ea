-- `quotient::states::put_states` meets its contract: the bytes of the classes from here on are still to be written. Assumes nothing.
use Rattle.table_spec.specs.File.{of_states}
use Rattle.lists.proofs.Copying as laws
use Rattle.quotient.specs.Classes.{class_bytes}
use Rattle.quotient.proofs.states.put_states.Given as goal

abbrev pub invariant-classes : goal.invariant-classes
invariant-classes l = laws.Writing (class_bytes (of_states l.states) l.map l.classes) l.initial.out l.out l.c
