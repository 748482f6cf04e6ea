-- `fit::fit` meets its contract: the first table's refusal, or the answer for a first table that was read. Assumes nothing.
use mathlib.Core.Path.{sym, ◌∙◌}
use Rattle.refusals.proofs.Numbers.{passed_up}
use Rattle.table_view.proofs.Handed.{read_as, read_refused}
use Rattle.fit_spec.proofs.Theorems.{promised}
use Rattle.fit.proofs.Answers.{first_refused}
use Rattle.fit.proofs.fit.Goals as goal

pub fit_second-requires : goal.fit_second-requires
fit_second-requires c = read_as _ _ _ (sym c.in_ok-one.ensures.answers)

pub returns : goal.returns
returns c =
    let the_facts = promised _ _ c.fit_second.ensures in
    record { answers = the_facts.0; number = the_facts.1.0; exact = the_facts.1.1.0; apart = the_facts.1.1.1.0; quotient = the_facts.1.1.1.1.0; transitive = the_facts.1.1.1.1.1 }

pub returns-in_err-one : goal.returns-in_err-one
returns-in_err-one c =
    let the_facts = promised _ _ (passed_up c.from_residual.ensures ∙ first_refused _ _ (read_refused _ _ _ (sym c.in_err-one.ensures.answers))) in
    record { answers = the_facts.0; number = the_facts.1.0; exact = the_facts.1.1.0; apart = the_facts.1.1.1.0; quotient = the_facts.1.1.1.1.0; transitive = the_facts.1.1.1.1.1 }
