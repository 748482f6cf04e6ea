-- `fit_compare::settle::same_rows` meets its contract. Assumes nothing.
use mathlib.Core.Path.{◌∙◌}
use Rattle.fit_compare.proofs.Settling.{pointwise_same}
use Rattle.fit_compare.proofs.settle.same_rows.Goals as goal

pub returns : goal.returns
returns c = c.eq.ensures ∙ pointwise_same _ _
