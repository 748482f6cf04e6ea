-- `capi::basilvault_union` meets its contract: the same at the limits of a caller that gives none. Assumes nothing.
use Rattle.capi.proofs.basilvault_union.Goals as goal

pub returns : goal.returns
returns c =
    record { answers = c.basilvault_union_within.ensures.answers }
