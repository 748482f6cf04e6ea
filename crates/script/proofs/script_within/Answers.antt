-- `script::script_within` meets its contract. Assumes nothing.
use Rattle.refusals.proofs.Numbers.{passed_up}
use Rattle.script_spec.proofs.Promises.{promised}
use Rattle.script_spec.proofs.Answers.{script_read, script_unread}
use Rattle.table_view.proofs.Handed.{read_as, read_refused}
use mathlib.Core.Path.{sym, ◌∙◌}
use Rattle.script.proofs.script_within.Goals as goal

pub returns-in_err-starts : goal.returns-in_err-starts
returns-in_err-starts c =
    let the_facts = promised _ _ _ (passed_up c.from_residual.ensures ∙ script_unread _ _ _ (read_refused _ _ _ (sym c.in_err-starts.ensures.answers))) in
    record { answers = the_facts.0; number = the_facts.1.0; exact = the_facts.1.1 }

pub read_known-requires : goal.read_known-requires
read_known-requires c = record { limits = _; known = read_as _ _ _ (sym c.in_ok-starts.ensures.answers) }

pub returns : goal.returns
returns c =
    let the_facts = promised _ _ _ (script_read _ _ _ (read_as _ _ _ (sym c.in_ok-starts.ensures.answers)).readable c.read_known.ensures) in
    record { answers = the_facts.0; number = the_facts.1.0; exact = the_facts.1.1 }
