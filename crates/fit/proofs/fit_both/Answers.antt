-- `fit::fit_both` meets its contract: 37, 38, or the answer. Assumes nothing.
use mathlib.Core.Path.{sym, ◌∙◌}
use mathlib.Core.Bool.{true≢false}
use Rattle.fit.proofs.Answers.{symbols_differ, has_choice, says}
use Rattle.fit.proofs.fit_both.Goals as goal

pub returns-then-not-same : goal.returns-then-not-same
returns-then-not-same c =
    symbols_differ c.requires c.part-symbols.ensures c.part.ensures (λ e. true≢false (sym (c.same.ensures.1 e) ∙ c.if-not-same.true))

pub returns-then-not-no_choice : goal.returns-then-not-no_choice
returns-then-not-no_choice c =
    has_choice c.requires c.part-symbols.ensures c.part.ensures (c.same.ensures.0 c.if-not-same.false) (sym c.no_choice.ensures ∙ c.if-not-no_choice.true)

pub returns : goal.returns
returns c =
    says c.requires c.part-symbols.ensures c.part.ensures (c.same.ensures.0 c.if-not-same.false) (sym c.no_choice.ensures ∙ c.if-not-no_choice.false) c.fits.ensures
