-- `combine::states::put_states` meets its contract: the bytes from here on are still to be written. Assumes nothing.
use Rattle.lists.proofs.Copying as laws
use Rattle.combine.specs.Parts.{state_bytes}
use Rattle.combine.proofs.states.put_states.Given as goal

abbrev pub invariant-states : goal.invariant-states
invariant-states l = laws.Writing (state_bytes l.how l.first l.second) l.initial.out l.out l.q
