-- `search::fits::no_marks` meets its contract. Assumes nothing.
use Rattle.search.proofs.Fitting.{none-marked}
use Rattle.search.proofs.fits.no_marks.Goals as goal

pub returns : goal.returns
returns c = none-marked
