-- `quotient::states::member_has` meets its contract: no member before this state has the flag. Assumes nothing.
use Rattle.quotient.proofs.ClassBytes.{Seeing}
use Rattle.quotient.proofs.states.member_has.Given as goal

abbrev pub invariant-states : goal.invariant-states
invariant-states l = Seeing l.flag l.states l.map l.class l.q
