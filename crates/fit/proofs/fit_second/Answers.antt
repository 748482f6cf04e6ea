-- `fit::fit_second` meets its contract: the second table's refusal, or the answer for both. Assumes nothing.
use mathlib.Core.Path.{sym, ◌∙◌}
use Rattle.refusals.proofs.Numbers.{passed_up}
use Rattle.table_view.proofs.Handed.{read_as, read_refused}
use Rattle.fit.proofs.Answers.{second_refused}
use Rattle.fit.proofs.fit_second.Goals as goal

pub fit_both-requires : goal.fit_both-requires
fit_both-requires c =
    record { first = c.requires; second = read_as _ _ _ (sym c.in_ok-two.ensures.answers) }

pub returns-in_err-two : goal.returns-in_err-two
returns-in_err-two c = passed_up c.from_residual.ensures ∙ second_refused _ _ c.requires.readable (read_refused _ _ _ (sym c.in_err-two.ensures.answers))
