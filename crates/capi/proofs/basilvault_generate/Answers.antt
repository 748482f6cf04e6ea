-- `capi::basilvault_generate` meets its contract: the same at the limits of a caller that gives none. Assumes nothing.
use Rattle.capi.proofs.basilvault_generate.Goals as goal

pub returns : goal.returns
returns c =
    record { answers = c.basilvault_generate_within.ensures.answers }
