-- `combine::combine_within` meets its contract: the first table's refusal, or the answer for a first table that was read. Assumes nothing.
use mathlib.Core.Path.{sym}
use Rattle.refusals.proofs.Numbers.{passed_up}
use Rattle.table_view.proofs.Handed.{read_as, read_refused}
use Rattle.combine_spec.proofs.Theorems.{combined}
use Rattle.combine.proofs.Answers.{first_refused}
use Rattle.combine.proofs.combine_within.Goals as goal

pub combine_second-requires : goal.combine_second-requires
combine_second-requires c = read_as _ _ _ (sym c.in_ok-one.ensures.answers)

pub returns : goal.returns
returns c =
    let the_facts = combined c.args.limits c.args.how c.args.first.now c.args.second.now c.args.out.now c.combine_second.ensures in
    record { answers = the_facts.0; number = the_facts.1.0; promises = the_facts.1.1 }

pub returns-in_err-one : goal.returns-in_err-one
returns-in_err-one c =
    let the_facts = combined c.args.limits c.args.how c.args.first.now c.args.second.now c.args.out.now (first_refused c.args.limits c.args.how c.args.first.now c.args.second.now c.args.out.now (passed_up c.from_residual.ensures) (read_refused _ _ _ (sym c.in_err-one.ensures.answers))) in
    record { answers = the_facts.0; number = the_facts.1.0; promises = the_facts.1.1 }
