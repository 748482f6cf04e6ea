-- `generate::draws::tails_of` meets its contract: one state or two. Assumes nothing.
use Rattle.std.proofs.Common.{sym, ap, ◌∙◌, arith}
use Rattle.generate.proofs.Places.{square, tails_move, tails-return, width_four}
use Rattle.generate.specs.Draws.{tails}
use Rattle.generate.proofs.draws.tails_of.Goals as goal

pub returns-then-width-eq3 : goal.returns-then-width-eq3
returns-then-width-eq3 c =
    sym (ap (λ w. tails w c.args.states) c.if-width-eq3.true ∙ tails_move c.args.states)

pub overflow_mul-result : goal.overflow_mul-result
overflow_mul-result c = omega (arith, square c.requires)

pub returns : goal.returns
returns c = let n = c.args.states in sym (ap (λ w. tails w n) (width_four c.requires c.if-width-eq3.false) ∙ tails-return n)
