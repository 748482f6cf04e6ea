-- `capi::basilvault_read_within` meets its contract: the answer as a number, buffers and values. Assumes nothing.
use mathlib.Core.Path.{refl, sym, ap, ◌∙◌}
use Rattle.capi.specs.Answers.{read_out}
use Rattle.capi.proofs.Answering.{answered}
use Rattle.capi.proofs.basilvault_read_within.Goals as goal

pub returns : goal.returns
unfolding read_out
returns c =
    let w = c.say.ensures in
    record { answers = answered _ (sym w.number) refl w.values ∙ ap (read_out _) c.read_within-reading.ensures.answers }
