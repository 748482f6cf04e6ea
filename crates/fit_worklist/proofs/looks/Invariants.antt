-- `fit_worklist::looks` meets its contract. The invariant: the rows hold tops and links only. Assumes nothing.
use Rattle.fit_links.specs.Quick.{LooksOn}
use Rattle.fit_worklist.proofs.looks.Given as goal

abbrev pub invariant-passes : goal.invariant-passes
invariant-passes l =
    LooksOn l.input.calls.now l.input.returns.now l.input.pushes.now l.input.pops.now l.input.k l.input.n l.initial.rows l.initial.links l.rows l.links
