-- `fit_rounds::rows::join` meets its contract. Assumes nothing.
use Rattle.fit_rounds.proofs.Holding.{Joining}
use Rattle.fit_rounds.proofs.rows.join.Given as goal

abbrev pub invariant-words : goal.invariant-words
invariant-words l = Joining l.u l.v l.initial.rows l.rows l.k
