-- `check_sections::met` meets its contract: a record that is not met ends it, and the others leave the answer to the rest. Assumes nothing.
use mathlib.Core.Path.{sym, ◌∙◌}
use Rattle.table_spec.proofs.Chunks.{taken, on, ended}
use Rattle.check_sections.proofs.Rooms.{ahead_on, placed-here}
use Rattle.check_sections.proofs.met.Goals as goal

pub record_met-requires : goal.record_met-requires
record_met-requires c = placed-here c.records.invariant.1 _ _ c.in-Some.ensures.steps.1 c.requires

pub returns-then-not-record_met : goal.returns-then-not-record_met
returns-then-not-record_met c =
    sym (taken c.records.invariant.0 _ _ c.in-Some.ensures.steps.1 ∙ rw (sym c.record_met.ensures ∙ c.if-not-record_met.true))

pub records-preserved : goal.records-preserved
records-preserved c =
    (on c.records.invariant.0 _ _ c.in-Some.ensures.steps.0 c.in-Some.ensures.steps.1 (rw (sym c.record_met.ensures ∙ c.if-not-record_met.false)), ahead_on c.records.invariant.1 _ _ c.in-Some.ensures.steps.1 c.in-Some.ensures.steps.0)

pub returns : goal.returns
returns c = sym (ended c.records.invariant.0 c.in-None.ensures.steps.1.0)
