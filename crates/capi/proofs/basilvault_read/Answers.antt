-- `capi::basilvault_read` meets its contract: the same at the limits of a caller that gives none. Assumes nothing.
use Rattle.capi.proofs.basilvault_read.Goals as goal

pub returns : goal.returns
returns c =
    record { answers = c.basilvault_read_within.ensures.answers }
