-- `capi::basilvault_search` meets its contract: the same at the limits of a caller that gives none. Assumes nothing.
use Rattle.capi.proofs.basilvault_search.Goals as goal

pub returns : goal.returns
returns c =
    record { answers = c.basilvault_search_within.ensures.answers }
