-- `choose::choose_number_within` meets its contract: the number that was decided. Assumes nothing.
use mathlib.Core.Path.{◌∙◌}
use Rattle.choose_spec.proofs.Choosing.{number_decided, neither_passes, zero_tells}
use Rattle.choose.proofs.choose_number_within.Goals as goal

pub returns-in-Ok : goal.returns-in-Ok
returns-in-Ok c =
    let e = number_decided _ _ _ _ c.in-Ok.ensures.answers in
    record { answers = e; neither = neither_passes _ _ _ _ e; tells = zero_tells _ _ _ _ e }

pub returns-in-Err : goal.returns-in-Err
returns-in-Err c =
    let e = c.number.ensures ∙ number_decided _ _ _ _ c.in-Err.ensures.answers in
    record { answers = e; neither = neither_passes _ _ _ _ e; tells = zero_tells _ _ _ _ e }
