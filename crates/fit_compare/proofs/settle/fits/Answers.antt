-- `fit_compare::settle::fits` meets its contract. Assumes nothing.
use Rattle.fit_compare.proofs.Handing.{both-few, fits_told}
use Rattle.fit_compare.proofs.settle.fits.Goals as goal

pub any_ends-requires : goal.any_ends-requires
any_ends-requires c =
    both-few c.requires c.part-states.ensures c.part-others.ensures

pub returns : goal.returns
returns c =
    fits_told c.requires c.part-states.ensures c.part-others.ensures c.pair_rows-rows.ensures c.any_ends.ensures
