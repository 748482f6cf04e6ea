-- `read_contents::records_fit` meets its contract: a record that does not fit ends it, and the others leave the answer to the rest. Assumes nothing.
use Rattle.std.proofs.Common.{sym, ◌∙◌}
use Rattle.table_spec.proofs.Chunks.{taken, on, ended}
use Rattle.read_contents.proofs.records_fit.Goals as goal

pub returns-then-not-record_fits : goal.returns-then-not-record_fits
returns-then-not-record_fits c = sym (taken c.records.invariant _ _ c.in-Some.ensures.steps.1 ∙ rw (sym c.record_fits.ensures ∙ c.if-not-record_fits.true))

pub records-preserved : goal.records-preserved
records-preserved c =
    on c.records.invariant _ _ c.in-Some.ensures.steps.0 c.in-Some.ensures.steps.1 (rw (sym c.record_fits.ensures ∙ c.if-not-record_fits.false))

pub returns : goal.returns
returns c = sym (ended c.records.invariant c.in-None.ensures.steps.1.0)
