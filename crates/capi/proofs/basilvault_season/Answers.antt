-- `capi::basilvault_season` meets its contract: the same at the limits of a caller that gives none. Assumes nothing.
use Rattle.capi.proofs.basilvault_season.Goals as goal

pub returns : goal.returns
returns c =
    record { answers = c.basilvault_season_within.ensures.answers }
