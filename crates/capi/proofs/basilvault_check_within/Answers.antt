-- `capi::basilvault_check_within` meets its contract: the answer as a number, buffers and values. Assumes nothing.
use mathlib.Core.Path.{refl, sym, ap, ◌∙◌}
use Rattle.capi.specs.Answers.{check_out}
use Rattle.capi.proofs.Answering.{answered}
use Rattle.capi.proofs.basilvault_check_within.Goals as goal

pub returns : goal.returns
unfolding check_out
returns c =
    let w = c.say.ensures in
    record { answers = answered _ (sym w.number) refl w.values ∙ ap (check_out _) c.check_within-checked.ensures.answers }
