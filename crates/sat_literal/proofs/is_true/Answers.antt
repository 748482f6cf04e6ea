-- `sat_literal::is_true` meets its contract. Assumes nothing.
use mathlib.Core.Path.{◌∙◌}
use Rattle.sat_trail.proofs.Trails.{right-at}
use Rattle.sat_literal.proofs.is_true.Goals as goal

pub returns : goal.returns
returns c = c.says.ensures ∙ right-at _ _ c.requires c.from.ensures
