-- `fit_rounds::pairs::by_move` meets its contract. The invariant: the states of the second below b are done. Assumes nothing.
use Rattle.fit_rounds.proofs.Passing.{Seconds}
use Rattle.fit_rounds.proofs.pairs.by_move.Given as goal

abbrev pub invariant-seconds : goal.invariant-seconds
invariant-seconds l = Seconds l.kind l.p l.a l.q l.n l.next l.initial.rows l.rows l.b
