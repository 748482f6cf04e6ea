-- `pairs::pairs_of` meets its contract. Assumes nothing.
use borrow.Author.Rules.{rules}
use Rattle.pairs.specs.Pairs.{pairs}
use Rattle.pairs.proofs.Pairs.{product_byte}
use Rattle.pairs.proofs.pairs_of.Goals as goal

pub returns-then-n-eq0 : goal.returns-then-n-eq0
unfolding pairs
returns-then-n-eq0 c = rw c.if-n-eq0.true

pub overflow_mul-result : goal.overflow_mul-result
overflow_mul-result c = record { fits = product_byte c.args.n (search rules) }

pub returns : goal.returns
unfolding pairs
returns c = search rules
