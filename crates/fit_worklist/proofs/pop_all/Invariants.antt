-- `fit_worklist::pop_all` meets its contract. The invariant: the rows hold tops and links only. Assumes nothing.
use Prim.Native.Nat.{◌-◌}
use Rattle.fit_links.proofs.Quickly.{PoppingOn}
use Rattle.fit_worklist.proofs.pop_all.Given as goal

abbrev pub invariant-tops : goal.invariant-tops
invariant-tops l =
    PoppingOn l.p l.b l.k l.n l.returns l.pops l.initial.rows l.initial.links l.rows l.links

abbrev pub decreases-tops : goal.decreases-tops
decreases-tops l = l.pairs - l.y
