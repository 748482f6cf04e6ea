-- `bits::has_bit` meets its contract. Assumes nothing.
use borrow.Author.Rules.{rules}
use Rattle.lists.specs.Bits.{has_bit}
use Rattle.bits.proofs.has_bit.Goals as goal

pub returns : goal.returns
unfolding has_bit
returns c = search rules
