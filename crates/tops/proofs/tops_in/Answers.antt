-- `tops::tops_in` meets its contract: a word of 64 bits has all its ones among the first 64. Assumes nothing.
use Rattle.lists.proofs.Words.{ones_first}
use Rattle.tops.proofs.tops_in.Goals as goal

pub returns : goal.returns
returns c = ones_first 64 c.args.word c.well_formed.0.1
