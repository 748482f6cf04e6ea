-- `capi::basilvault_intersection` meets its contract: the same at the limits of a caller that gives none. Assumes nothing.
use Rattle.capi.proofs.basilvault_intersection.Goals as goal

pub returns : goal.returns
returns c =
    record { answers = c.basilvault_intersection_within.ensures.answers }
