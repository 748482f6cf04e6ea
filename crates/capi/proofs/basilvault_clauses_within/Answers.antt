-- `capi::basilvault_clauses_within` meets its contract: the answer as a number, buffers and values. Assumes nothing.
use mathlib.Core.Path.{refl, sym, ap, ◌∙◌}
use Rattle.capi.specs.Answers.{clauses_out}
use Rattle.capi.proofs.Answering.{answered}
use Rattle.capi.proofs.basilvault_clauses_within.Goals as goal

pub returns : goal.returns
unfolding clauses_out
returns c =
    let w = c.say.ensures in
    record { answers = answered _ (sym w.number) refl w.values ∙ ap (clauses_out _) c.clauses_within-listed.ensures.answers }
