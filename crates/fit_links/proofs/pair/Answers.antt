-- `fit_links::pair` meets its contract. Assumes nothing.
use mathlib.Core.Path.{refl}
use native.Mathlib.Omega.{arith}
use borrow.Author.Rules.{rules}
use Rattle.fit_rounds.proofs.Passing.{pair_fits}
use Rattle.fit_links.proofs.pair.Goals as goal

pub overflow_mul-result : goal.overflow_mul-result
overflow_mul-result c = let h = pair_fits {b = c.args.b} c.requires.0 c.requires.2 (omega (arith, c.requires.1)) in search rules

pub overflow_add-result-2 : goal.overflow_add-result-2
overflow_add-result-2 c = let h = pair_fits {b = c.args.b} c.requires.0 c.requires.2 (omega (arith, c.requires.1)) in search rules

pub returns : goal.returns
returns c = (refl, pair_fits c.requires.0 c.requires.2 (omega (arith, c.requires.1)))
