-- `capi::basilvault_reduce` meets its contract: the same at the limits of a caller that gives none. Assumes nothing.
use Rattle.capi.proofs.basilvault_reduce.Goals as goal

pub returns : goal.returns
returns c =
    record { answers = c.basilvault_reduce_within.ensures.answers }
