-- `fit_rounds::rows::held` meets its contract. Assumes nothing.
use mathlib.Core.Path.{◌∙◌}
use Rattle.lists.specs.Bits.{has_bit}
use Rattle.fit_rounds.proofs.Holding.{held_is}
use Rattle.fit_rounds.proofs.rows.held.Goals as goal

pub returns : goal.returns
unfolding has_bit
returns c =
    λ F h. c.has_bit.ensures ∙ held_is h c.args.u c.args.x c.requires.0 c.requires.1
