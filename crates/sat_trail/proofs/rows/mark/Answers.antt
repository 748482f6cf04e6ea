-- `sat_trail::rows::mark` meets its contract. Assumes nothing.
use Rattle.sat_trail.specs.Rows.{marked}
use Rattle.sat_trail.proofs.rows.mark.Goals as goal

pub returns : goal.returns
unfolding marked
returns c = rw (c.gain-2.ensures, c.gain.ensures)
