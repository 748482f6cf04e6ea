-- `fit_links::covers` meets its contract: what is still to come of the words. Assumes nothing.
use Rattle.fit_links.proofs.Quickly.{Covering}
use Rattle.fit_links.proofs.covers.Given as goal

abbrev pub invariant-words : goal.invariant-words
invariant-words l = Covering l.u l.v l.rows l.k
