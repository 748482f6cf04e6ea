-- `capi::basilvault_choose_within` meets its contract: the answer as a number and values. Assumes nothing.
use mathlib.Core.Path.{refl, sym, ap, ◌∙◌}
use Rattle.capi.specs.Answers.{choose_out}
use Rattle.capi.proofs.Answering.{answered}
use Rattle.capi.proofs.basilvault_choose_within.Goals as goal

pub returns : goal.returns
unfolding choose_out
returns c =
    let w = c.say.ensures in
    record { answers = answered _ (sym w.number) refl w.values ∙ ap (choose_out _) c.decide_within-choice.ensures.answers }
