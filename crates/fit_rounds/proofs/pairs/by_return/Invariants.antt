-- `fit_rounds::pairs::by_return` meets its contract. The invariant: the states of the second below b are done. Assumes nothing.
use Rattle.fit_rounds.proofs.Passing.{Overs}
use Rattle.fit_rounds.proofs.pairs.by_return.Given as goal

abbrev pub invariant-seconds : goal.invariant-seconds
invariant-seconds l = Overs l.p l.a l.s l.q l.n l.next l.initial.rows l.rows l.b
