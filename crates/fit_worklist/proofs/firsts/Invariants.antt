-- `fit_worklist::firsts` meets its contract: records start at the places. Assumes nothing.
use Rattle.fit_links.proofs.Quickly.{Placing}
use Rattle.fit_worklist.proofs.firsts.Given as goal

abbrev pub invariant-records : goal.invariant-records
invariant-records l = Placing l.width l.section l.places
