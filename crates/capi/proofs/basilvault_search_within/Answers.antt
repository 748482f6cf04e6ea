-- `capi::basilvault_search_within` meets its contract: the answer as a number, buffers and values. Assumes nothing.
use mathlib.Core.Path.{refl, sym, ap, ◌∙◌}
use Rattle.capi.specs.Answers.{search_out}
use Rattle.capi.proofs.Answering.{answered}
use Rattle.capi.proofs.basilvault_search_within.Goals as goal

pub returns : goal.returns
unfolding search_out
returns c =
    let w = c.say.ensures in
    record { answers = answered _ (sym w.number) refl w.values ∙ ap (search_out _) c.search_within-solution.ensures.answers }
