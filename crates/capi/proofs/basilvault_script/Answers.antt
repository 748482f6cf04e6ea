-- `capi::basilvault_script` meets its contract: the same at the limits of a caller that gives none. Assumes nothing.
use Rattle.capi.proofs.basilvault_script.Goals as goal

pub returns : goal.returns
returns c =
    record { answers = c.basilvault_script_within.ensures.answers }
