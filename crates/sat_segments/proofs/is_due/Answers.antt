-- `sat_segments::is_due` meets its contract. Assumes nothing.
use Rattle.lists.specs.Bits.{has}
use Rattle.sat_segments.proofs.is_due.Goals as goal

pub returns : goal.returns
unfolding has
returns c = c.has_bit.ensures
