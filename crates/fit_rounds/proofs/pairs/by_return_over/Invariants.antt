-- `fit_rounds::pairs::by_return_over` meets its contract. The invariant: the popped states below c are done. Assumes nothing.
use Rattle.fit_rounds.proofs.Passing.{Unders}
use Rattle.fit_rounds.proofs.pairs.by_return_over.Given as goal

abbrev pub invariant-unders : goal.invariant-unders
invariant-unders l = Unders l.p l.a l.b l.s l.q l.n l.next l.initial.rows l.rows l.c
