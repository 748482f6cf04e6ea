-- `check_matching::keeps` meets its contract. Assumes nothing.
use Rattle.check_matching.proofs.Matched.{move_kept, return_kept}
use mathlib.Core.Path.{◌∙◌}
use Rattle.check_matching.proofs.keeps.Goals as goal

pub returns-then-fields-lt4 : goal.returns-then-fields-lt4
returns-then-fields-lt4 c = move_kept _ _ c.if-fields-lt4.true

pub returns : goal.returns
returns c =
    c.has_top.ensures ∙ return_kept _ _ c.if-fields-lt4.false c.from.ensures c.from-2.ensures
