-- `capi::basilvault_check` meets its contract: the same at the limits of a caller that gives none. Assumes nothing.
use Rattle.capi.proofs.basilvault_check.Goals as goal

pub returns : goal.returns
returns c =
    record { answers = c.basilvault_check_within.ensures.answers }
