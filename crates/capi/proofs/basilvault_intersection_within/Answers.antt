-- `capi::basilvault_intersection_within` meets its contract: the answer as a number, buffers and values. Assumes nothing.
use mathlib.Core.Path.{refl, sym, ap, ◌∙◌}
use Rattle.capi.specs.Answers.{quotient_out}
use Rattle.capi.proofs.Answering.{answered}
use Rattle.capi.proofs.basilvault_intersection_within.Goals as goal

pub returns : goal.returns
unfolding quotient_out
returns c =
    let w = c.say.ensures in
    record { answers = answered _ (sym w.number) refl w.values ∙ ap (quotient_out _) c.combine_within-written.ensures.answers }
