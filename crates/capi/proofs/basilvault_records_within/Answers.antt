-- `capi::basilvault_records_within` meets its contract: the answer as a number, buffers and values. Assumes nothing.
use mathlib.Core.Path.{refl, sym, ap, ◌∙◌}
use Rattle.capi.specs.Answers.{records_out}
use Rattle.capi.proofs.Answering.{answered}
use Rattle.capi.proofs.basilvault_records_within.Goals as goal

pub returns : goal.returns
unfolding records_out
returns c =
    let w = c.say.ensures in
    record { answers = answered _ (sym w.number) refl w.values ∙ ap (records_out _) c.records_within-recorded.ensures.answers }
