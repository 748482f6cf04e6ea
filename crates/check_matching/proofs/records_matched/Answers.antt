-- `check_matching::records_matched` meets its contract: a record that is not met ends it, and the others leave the answer to the rest. Assumes nothing.
use mathlib.Core.Path.{sym, ◌∙◌}
use Rattle.table_spec.proofs.Chunks.{taken, on, ended}
use Rattle.check_matching.proofs.records_matched.Goals as goal

pub returns-then-not-record_met : goal.returns-then-not-record_met
returns-then-not-record_met c =
    sym (taken c.records.invariant _ _ c.in-Some.ensures.steps.1 ∙ rw (sym c.record_met.ensures ∙ c.if-not-record_met.true))

pub records-preserved : goal.records-preserved
records-preserved c =
    on c.records.invariant _ _ c.in-Some.ensures.steps.0 c.in-Some.ensures.steps.1 (rw (sym c.record_met.ensures ∙ c.if-not-record_met.false))

pub returns : goal.returns
returns c = sym (ended c.records.invariant c.in-None.ensures.steps.1.0)
