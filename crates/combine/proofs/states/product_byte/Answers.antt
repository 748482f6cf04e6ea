-- `combine::states::product_byte` meets its contract. Assumes nothing.
use native.Mathlib.Omega.{arith}
use Rattle.combine.proofs.StateBytes.{product-some, product-first, product-second, product_byte}
use borrow.Author.Rules.{rules}
use Rattle.combine.proofs.states.product_byte.Goals as goal

pub nonzero_div-p : goal.nonzero_div-p
nonzero_div-p c =
    omega (arith, product-some c.args.first.now c.args.second.now c.requires)

pub nonzero_rem-q : goal.nonzero_rem-q
nonzero_rem-q c =
    omega (arith, product-some c.args.first.now c.args.second.now c.requires)

pub bounds-first-p : goal.bounds-first-p
bounds-first-p c =
    let l = product-first c.args.first.now c.args.second.now c.requires in search rules

pub bounds-second-q : goal.bounds-second-q
bounds-second-q c =
    let l = product-second c.args.first.now c.args.second.now c.requires in search rules

pub returns : goal.returns
returns c =
    product_byte c.args.first.now c.args.second.now c.requires c.pair_byte.ensures
