-- `capi::basilvault_tops` meets its contract: the same at the limits of a caller that gives none. Assumes nothing.
use Rattle.capi.proofs.basilvault_tops.Goals as goal

pub returns : goal.returns
returns c =
    record { answers = c.basilvault_tops_within.ensures.answers }
