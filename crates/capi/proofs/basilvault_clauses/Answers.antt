-- `capi::basilvault_clauses` meets its contract: the same at the limits of a caller that gives none. Assumes nothing.
use Rattle.capi.proofs.basilvault_clauses.Goals as goal

pub returns : goal.returns
returns c =
    record { answers = c.basilvault_clauses_within.ensures.answers }
