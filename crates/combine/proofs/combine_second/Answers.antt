-- `combine::combine_second` meets its contract: the second table's refusal, or the answer for both. Assumes nothing.
use mathlib.Core.Path.{sym}
use Rattle.refusals.proofs.Numbers.{passed_up}
use Rattle.table_view.proofs.Handed.{read_as, read_refused}
use Rattle.combine.proofs.Answers.{second_refused}
use Rattle.combine.proofs.combine_second.Goals as goal

pub combine_both-requires : goal.combine_both-requires
combine_both-requires c =
    record { first = c.requires; second = read_as _ _ _ (sym c.in_ok-two.ensures.answers) }

pub returns-in_err-two : goal.returns-in_err-two
returns-in_err-two c =
    second_refused c.args.limits c.args.how c.args.first.now c.args.second.now c.args.out.now (passed_up c.from_residual.ensures) c.requires.readable (read_refused _ _ _ (sym c.in_err-two.ensures.answers))
