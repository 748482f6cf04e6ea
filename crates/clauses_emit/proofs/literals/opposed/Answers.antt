-- `clauses_emit::literals::opposed` meets its contract. Assumes nothing.
use borrow.Author.Tests.{eq-eqb, ne_eqb}
use Rattle.clauses_spec.specs.Clauses.{opposite}
use Rattle.clauses_emit.proofs.literals.opposed.Goals as goal

pub returns-then-l-eq0 : goal.returns-then-l-eq0
unfolding opposite
returns-then-l-eq0 c = rw (eq-eqb _ _ c.if-l-eq0.true, opposite)

pub returns-else-l-eq0 : goal.returns-else-l-eq0
unfolding opposite
returns-else-l-eq0 c = rw (ne_eqb _ _ c.if-l-eq0.false, opposite)
