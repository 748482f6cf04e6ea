-- `quotient::states::member_mark` meets its contract: no state before this one is a member. Assumes nothing.
use Rattle.quotient.proofs.ClassBytes.{Marking}
use Rattle.quotient.proofs.states.member_mark.Given as goal

abbrev pub invariant-states : goal.invariant-states
invariant-states l = Marking l.states l.map l.class l.q
