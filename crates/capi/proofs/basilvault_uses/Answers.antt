-- `capi::basilvault_uses` meets its contract: the same at the limits of a caller that gives none. Assumes nothing.
use Rattle.capi.proofs.basilvault_uses.Goals as goal

pub returns : goal.returns
returns c =
    record { answers = c.basilvault_uses_within.ensures.answers }
