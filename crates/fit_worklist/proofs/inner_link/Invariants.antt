-- `fit_worklist::inner_link` meets its contract. The invariant: the rows hold links only. Assumes nothing.
use Rattle.fit_links.proofs.Quickly.{Linking}
use Rattle.fit_worklist.proofs.inner_link.Given as goal

abbrev pub invariant-seconds : goal.invariant-seconds
invariant-seconds l = Linking l.p l.a l.q l.n l.moves l.initial.links l.links l.b
