-- `fit_compare::marks::start_at` meets its contract. Assumes nothing.
use Rattle.fit_compare.proofs.Marking.{start_put, start-kept}
use mathlib.Core.Path.{sym, ◌∙◌}
use Rattle.fit_compare.proofs.marks.start_at.Goals as goal

pub returns-then-starts : goal.returns-then-starts
returns-then-starts c = λ F h l. start_put _ _ _ F (sym c.if-starts.true ∙ c.starts.ensures) (c.put.ensures F h l)

pub returns-else-starts : goal.returns-else-starts
returns-else-starts c = λ F h l. start-kept _ _ _ F (sym c.if-starts.false ∙ c.starts.ensures) h
