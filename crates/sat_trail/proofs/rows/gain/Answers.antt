-- `sat_trail::rows::gain` meets its contract. Assumes nothing.
use Rattle.sat_trail.specs.Rows.{gain}
use Rattle.sat_trail.proofs.rows.gain.Goals as goal

pub returns : goal.returns
unfolding gain
returns c = rw (c.bit.ensures, c.from.ensures, c.from-i.ensures)
