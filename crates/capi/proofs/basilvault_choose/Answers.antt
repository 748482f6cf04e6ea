-- `capi::basilvault_choose` meets its contract: the same at the limits of a caller that gives none. Assumes nothing.
use Rattle.capi.proofs.basilvault_choose.Goals as goal

pub returns : goal.returns
returns c =
    record { answers = c.basilvault_choose_within.ensures.answers }
