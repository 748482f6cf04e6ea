-- `generate::write::put_states` meets its contract: the bytes from here on are still to be written. Assumes nothing.
use Rattle.lists.proofs.Copying as laws
use Rattle.generate_spec.specs.Loads.{state_bytes}
use Rattle.generate.proofs.write.put_states.Given as goal

abbrev pub invariant-states : goal.invariant-states
invariant-states l = laws.Writing (state_bytes l.states) l.initial.out l.out l.q
