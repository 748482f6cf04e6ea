-- `pairs::variable_of` meets its contract. Assumes nothing.
use native.Mathlib.Omega.{arith}
use borrow.Author.Rules.{rules}
use borrow.Author.Tests.{lt-ltb, le-ltb}
use Rattle.pairs.specs.Pairs.{variable_of}
use Rattle.pairs.proofs.Pairs.{pairs_byte}
use Rattle.pairs.proofs.variable_of.Goals as goal

pub overflow_add-result : goal.overflow_add-result
overflow_add-result c = omega (arith, c.pairs_of.ensures, pairs_byte c.args.q (search rules))

pub overflow_add-result-else-p-q : goal.overflow_add-result-else-p-q
overflow_add-result-else-p-q c = omega (arith, c.pairs_of-else-p-q.ensures, pairs_byte c.args.p (search rules))

pub returns-then-p-q : goal.returns-then-p-q
unfolding variable_of
returns-then-p-q c = rw (lt-ltb _ _ c.if-p-q.true, variable_of, c.pairs_of.ensures)

pub returns-else-p-q : goal.returns-else-p-q
unfolding variable_of
returns-else-p-q c = rw (le-ltb _ _ c.if-p-q.false, variable_of, c.pairs_of-else-p-q.ensures)
