-- `read_contents::test_contents` meets its contract: the first test that fails. Assumes nothing.
use mathlib.Core.Path.{sym, ◌∙◌}
use Rattle.read_contents.proofs.Numbers as numbers
use Rattle.read_contents.proofs.test_contents.Goals as goal

pub returns-then-not-counts_fit : goal.returns-then-not-counts_fit
returns-then-not-counts_fit c = numbers.number_4 _ _ _ _ _ _ _ (sym c.counts_fit.ensures ∙ c.if-not-counts_fit.true)

pub returns-then-not-bytes_fit : goal.returns-then-not-bytes_fit
returns-then-not-bytes_fit c = numbers.number_5 _ _ _ _ _ _ _ (sym c.counts_fit.ensures ∙ c.if-not-counts_fit.false) (sym c.bytes_fit.ensures ∙ c.if-not-bytes_fit.true)

pub returns-then-not-any_initial : goal.returns-then-not-any_initial
returns-then-not-any_initial c =
    numbers.number_6 _ _ _ _ _ _ _ (sym c.counts_fit.ensures ∙ c.if-not-counts_fit.false) (sym c.bytes_fit.ensures ∙ c.if-not-bytes_fit.false) (sym c.any_initial.ensures ∙ c.if-not-any_initial.true)

pub returns-then-not-sections_fit : goal.returns-then-not-sections_fit
returns-then-not-sections_fit c =
    numbers.number_7 _ _ _ _ _ _ _ (sym c.counts_fit.ensures ∙ c.if-not-counts_fit.false) (sym c.bytes_fit.ensures ∙ c.if-not-bytes_fit.false) (sym c.any_initial.ensures ∙ c.if-not-any_initial.false) (sym c.sections_fit.ensures ∙ c.if-not-sections_fit.true)

pub returns-then-not-sections_ascend : goal.returns-then-not-sections_ascend
returns-then-not-sections_ascend c =
    numbers.number_8 _ _ _ _ _ _ _ (sym c.counts_fit.ensures ∙ c.if-not-counts_fit.false) (sym c.bytes_fit.ensures ∙ c.if-not-bytes_fit.false) (sym c.any_initial.ensures ∙ c.if-not-any_initial.false) (sym c.sections_fit.ensures ∙ c.if-not-sections_fit.false) (sym c.sections_ascend.ensures ∙ c.if-not-sections_ascend.true)

pub returns : goal.returns
returns c =
    numbers.number_0 _ _ _ _ _ _ _ (sym c.counts_fit.ensures ∙ c.if-not-counts_fit.false) (sym c.bytes_fit.ensures ∙ c.if-not-bytes_fit.false) (sym c.any_initial.ensures ∙ c.if-not-any_initial.false) (sym c.sections_fit.ensures ∙ c.if-not-sections_fit.false) (sym c.sections_ascend.ensures ∙ c.if-not-sections_ascend.false)
