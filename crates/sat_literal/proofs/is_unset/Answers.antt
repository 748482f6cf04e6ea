-- `sat_literal::is_unset` meets its contract. Assumes nothing.
use Rattle.sat_trail.proofs.Trails.{unset-at}
use Rattle.sat_literal.proofs.is_unset.Goals as goal

pub returns : goal.returns
returns c = unset-at _ _ c.requires c.from.ensures
