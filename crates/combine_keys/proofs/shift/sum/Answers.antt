-- `combine_keys::shift::sum` meets its contract: the keys of the first, then those of the second, shifted. Assumes nothing.
use Rattle.combine_keys.proofs.Sums.{width-within, first_small, second-small, summed, first_full}
use Rattle.combine_keys.proofs.shift.sum.Goals as goal

pub add_shifted-requires : goal.add_shifted-requires
add_shifted-requires c = ((width-within c.requires).0, (width-within c.requires).1, first_small c.requires)

pub returns-in_err-count : goal.returns-in_err-count
returns-in_err-count c = first_full c.requires c.from_residual.ensures c.in_err-count.ensures

pub add_shifted-requires-2 : goal.add_shifted-requires-2
add_shifted-requires-2 c = ((width-within c.requires).0, (width-within c.requires).1, second-small c.requires c.offset.ensures)

pub returns : goal.returns
returns c = summed c.requires c.offset.ensures c.add_shifted.auto.keys c.in_ok-count.ensures c.add_shifted-2.ensures
