-- `capi::basilvault_records` meets its contract: the same at the limits of a caller that gives none. Assumes nothing.
use Rattle.capi.proofs.basilvault_records.Goals as goal

pub returns : goal.returns
returns c =
    record { answers = c.basilvault_records_within.ensures.answers }
