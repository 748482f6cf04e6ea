-- `fit_compare::nexts::target_of` meets its contract. Assumes nothing.
use Rattle.fit_compare.proofs.Targets.{no_target, a_target}
use native.Mathlib.Omega.{arith}
use Rattle.fit_compare.proofs.nexts.target_of.Goals as goal

pub returns-then-found-width : goal.returns-then-found-width
returns-then-found-width c =
    λ k d. no_target c.args.section.now k c.equal_range-found.result.now d.long (c.equal_range-found.ensures k d c.requires.1) c.args.sink c.if-found-width.true

pub returns : goal.returns
returns c =
    λ k d. a_target c.args.section.now k c.equal_range-found.result.now d.long (c.equal_range-found.ensures k d c.requires.1) c.args.sink (omega (arith, c.if-found-width.false))
