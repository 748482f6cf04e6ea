-- `fit_compare::marks::ends_at` meets its contract. Assumes nothing.
use mathlib.Core.Path.{sym, ap, ◌∙◌}
use mathlib.Core.Bool.{Bool, ◌&&◌}
use Rattle.lists.specs.Bits.{has}
use Rattle.fit_compare.proofs.marks.ends_at.Goals as goal

pub returns-then-accepts : goal.returns-then-accepts
returns-then-accepts c =
    λ F h. c.held.ensures F h ∙ ap (λ (b : Bool). b && has F c.args.u c.args.bottom) (sym c.if-accepts.true ∙ c.accepts.ensures)

pub returns : goal.returns
returns c =
    λ F h. ap (λ (b : Bool). b && has F c.args.u c.args.bottom) (sym c.if-accepts.false ∙ c.accepts.ensures)
