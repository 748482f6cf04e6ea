-- `uses::lines::test_lines` meets its contract, return by return. Assumes nothing.
use mathlib.Core.Path.{sym, ◌∙◌}
use Rattle.uses_spec.proofs.Promises.{not-whole, too_many, past-count, no_refusal}
use Rattle.uses.proofs.lines.test_lines.Goals as goal

pub returns-then-lines-ne0 : goal.returns-then-lines-ne0
returns-then-lines-ne0 c = not-whole _ _ c.if-lines-ne0.true

pub returns-then-lines-gt-LINES : goal.returns-then-lines-gt-LINES
returns-then-lines-gt-LINES c = too_many _ _ c.if-lines-ne0.false c.if-lines-gt-LINES.true

pub returns-then-not-states_fit : goal.returns-then-not-states_fit
returns-then-not-states_fit c = past-count _ _ c.if-lines-ne0.false c.if-lines-gt-LINES.false (sym c.states_fit.ensures ∙ c.if-not-states_fit.true)

pub returns : goal.returns
returns c = no_refusal _ _ c.if-lines-ne0.false c.if-lines-gt-LINES.false (sym c.states_fit.ensures ∙ c.if-not-states_fit.false)
