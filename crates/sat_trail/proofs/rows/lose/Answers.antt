-- `sat_trail::rows::lose` meets its contract. Assumes nothing.
use Rattle.sat_trail.specs.Rows.{lose}
use Rattle.sat_trail.proofs.rows.lose.Goals as goal

pub returns : goal.returns
unfolding lose
returns c = rw (c.without.ensures, c.bit.ensures, c.from.ensures, c.from-i.ensures)
