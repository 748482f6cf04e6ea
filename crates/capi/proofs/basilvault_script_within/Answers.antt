-- `capi::basilvault_script_within` meets its contract: the answer as a number, buffers and values. Assumes nothing.
use mathlib.Core.Path.{refl, sym, ap, ◌∙◌}
use Rattle.capi.specs.Answers.{script_out}
use Rattle.capi.proofs.Answering.{answered}
use Rattle.capi.proofs.basilvault_script_within.Goals as goal

pub returns : goal.returns
unfolding script_out
returns c =
    let w = c.say.ensures in
    record { answers = answered _ (sym w.number) refl w.values ∙ ap (script_out _) c.script_within-read.ensures.answers }
