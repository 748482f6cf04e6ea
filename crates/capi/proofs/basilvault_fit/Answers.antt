-- `capi::basilvault_fit` meets its contract: the answer as a number, buffers and values. Assumes nothing.
use mathlib.Core.Path.{refl, sym, ap, ◌∙◌}
use Rattle.capi.specs.Answers.{fit_out}
use Rattle.capi.proofs.Answering.{answered}
use Rattle.capi.proofs.basilvault_fit.Goals as goal

pub returns : goal.returns
unfolding fit_out
returns c =
    let w = c.say.ensures in
    record { answers = answered _ (sym w.number) refl w.values ∙ ap (fit_out _) c.fit-fitting.ensures.answers }
