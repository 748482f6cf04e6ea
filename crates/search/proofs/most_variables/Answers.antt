-- `search::most_variables` meets its contract. Assumes nothing.
use mathlib.Core.Path.{refl}
use native.Mathlib.Omega.{arith}
use Rattle.limits.proofs.Within.{limits-within}
use Rattle.pairs.specs.Pairs.{pairs}
use Rattle.search.proofs.Answering.{few-product}
use Rattle.search.proofs.most_variables.Goals as goal

pub overflow_sub-result : goal.overflow_sub-result
overflow_sub-result c = (limits-within c.requires).some-state

pub overflow_mul-result : goal.overflow_mul-result
overflow_mul-result c = record { fits = omega (arith, few-product _ (limits-within c.requires).states) }

pub returns : goal.returns
unfolding pairs
returns c = refl
