-- `capi::basilvault_season_within` meets its contract: the answer as a number, buffers and values. Assumes nothing.
use mathlib.Core.Path.{refl, sym, ap, ◌∙◌}
use Rattle.capi.specs.Answers.{season_out}
use Rattle.capi.proofs.Answering.{answered}
use Rattle.capi.proofs.basilvault_season_within.Goals as goal

pub returns : goal.returns
unfolding season_out
returns c =
    let w = c.say.ensures in
    record { answers = answered _ (sym w.number) refl w.values ∙ ap (season_out _) c.season_within-answer.ensures.answers }
