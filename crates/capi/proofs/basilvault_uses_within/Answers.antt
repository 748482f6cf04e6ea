-- `capi::basilvault_uses_within` meets its contract: the answer as a number and values. Assumes nothing.
use mathlib.Core.Path.{refl, sym, ap, ◌∙◌}
use Rattle.capi.specs.Answers.{uses_out}
use Rattle.capi.proofs.Answering.{answered}
use Rattle.capi.proofs.basilvault_uses_within.Goals as goal

pub returns : goal.returns
unfolding uses_out
returns c =
    let w = c.say.ensures in
    record { answers = answered _ (sym w.number) refl w.values ∙ ap (uses_out _) c.uses_within-counted.ensures.answers }
