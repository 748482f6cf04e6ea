-- `sat_trail::rows::unmark` meets its contract. Assumes nothing.
use Rattle.sat_trail.specs.Rows.{unmarked}
use Rattle.sat_trail.proofs.rows.unmark.Goals as goal

pub returns : goal.returns
unfolding unmarked
returns c = rw (c.lose-2.ensures, c.lose.ensures)
