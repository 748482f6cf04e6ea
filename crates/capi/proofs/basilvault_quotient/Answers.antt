-- `capi::basilvault_quotient` meets its contract: the same at the limits of a caller that gives none. Assumes nothing.
use Rattle.capi.proofs.basilvault_quotient.Goals as goal

pub returns : goal.returns
returns c =
    record { answers = c.basilvault_quotient_within.ensures.answers }
