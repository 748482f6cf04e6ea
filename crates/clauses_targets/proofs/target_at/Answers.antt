-- `clauses_targets::target_at` meets its contract. Assumes nothing.
use borrow.Author.Rules.{rules}
use native.Mathlib.Omega.{arith}
use Rattle.clauses_targets.proofs.Targeting.{target-inside, target_byte}
use Rattle.clauses_targets.proofs.target_at.Goals as goal

pub overflow_mul-result : goal.overflow_mul-result
overflow_mul-result c = let t = target-inside c.requires.0 c.requires.1 in search rules

pub overflow_add-result : goal.overflow_add-result
overflow_add-result c = let t = target-inside c.requires.0 c.requires.1 in search rules

pub bounds-found-i : goal.bounds-found-i
bounds-found-i c = omega (arith, target-inside c.requires.0 c.requires.1, c.requires.0.some-width)

pub returns : goal.returns
returns c = target_byte c.requires.0 c.requires.1
