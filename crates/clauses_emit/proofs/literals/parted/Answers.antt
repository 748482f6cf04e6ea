-- `clauses_emit::literals::parted` meets its contract. Assumes nothing.
use native.Mathlib.Omega.{arith}
use borrow.Author.Rules.{rules}
use Rattle.pairs.proofs.Pairs.{variable_byte}
use Rattle.clauses_emit.proofs.literals.parted.Goals as goal

-- src/literals.rt:27:5
pub overflow_mul-result : goal.overflow_mul-result
overflow_mul-result c =
    omega (arith, c.variable_of.ensures, variable_byte c.args.p c.args.q (search rules) (search rules))

-- src/literals.rt:27:5
pub overflow_add-result : goal.overflow_add-result
overflow_add-result c =
    omega (arith, c.variable_of.ensures, variable_byte c.args.p c.args.q (search rules) (search rules))
