-- `fit_compare::marks::accepts` meets its contract. Assumes nothing.
use mathlib.Core.Path.{◌∙◌}
use borrow.Author.Tests.{ne_eqb}
use Rattle.fit_compare.proofs.Marking.{accepts_by, first_told}
use Rattle.fit_compare.proofs.marks.accepts.Goals as goal

pub returns-then-first-eq1 : goal.returns-then-first-eq1
returns-then-first-eq1 c = accepts_by _ _ c.if-first-eq1.true

pub returns-else-first-eq1 : goal.returns-else-first-eq1
returns-else-first-eq1 c = ne_eqb _ _ c.if-first-eq1.false ∙ first_told _ _ c.if-first-eq1.false
