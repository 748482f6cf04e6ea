-- `capi::basilvault_reduce_within` meets its contract: the answer as a number, buffers and values. Assumes nothing.
use mathlib.Core.Path.{refl, sym, ap, ◌∙◌}
use Rattle.capi.specs.Answers.{reduce_out}
use Rattle.capi.proofs.Answering.{answered}
use Rattle.capi.proofs.basilvault_reduce_within.Goals as goal

pub returns : goal.returns
unfolding reduce_out
returns c =
    let w = c.say.ensures in
    record { answers = answered _ (sym w.number) refl w.values ∙ ap (reduce_out _) c.reduce_within-reduction.ensures.answers }
