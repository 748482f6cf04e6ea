-- `fit_worklist::pass` meets its contract. The invariant: the rows hold tops and links only. Assumes nothing.
use Rattle.fit_links.proofs.Quickly.{Looking}
use Rattle.fit_worklist.proofs.pass.Given as goal

abbrev pub invariant-pairs : goal.invariant-pairs
invariant-pairs l =
    Looking l.input.calls.now l.input.returns.now l.input.pushes.now l.input.pops.now l.input.k l.input.n l.initial.rows l.initial.links l.rows l.links l.u
