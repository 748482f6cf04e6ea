-- `fit_worklist::spread` meets its contract. The invariant: the rows hold tops only. Assumes nothing.
use Prim.Native.Nat.{◌-◌}
use Rattle.fit_links.proofs.Quickly.{Spreading}
use Rattle.fit_worklist.proofs.spread.Given as goal

abbrev pub invariant-links : goal.invariant-links
invariant-links l = Spreading l.u l.pairs l.links l.initial.rows l.rows

abbrev pub decreases-links : goal.decreases-links
decreases-links l = l.pairs - l.v
