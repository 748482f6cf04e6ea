-- `combine_keys::pairs::product` meets its contract: the records of the pairs so far are added. Assumes nothing.
use Prim.Native.Nat.{◌*◌}
use native.Mathlib.Omega.{arith}
use mathlib.Core.Path.{refl}
use mathlib.Core.List.{◌∷◌}
use Rattle.table_spec.specs.File.{records}
use Rattle.combine_keys.specs.Factors.{stack_bounds}
use Rattle.combine_keys.proofs.Adding.{count_next, count_stop, counted}
use Rattle.combine_keys.proofs.Products.{all_collected}
use Rattle.combine_keys.proofs.pairs.product.Goals as goal

pub returns-in_err-held : goal.returns-in_err-held
returns-in_err-held c =
    all_collected c.args.states (records c.args.width c.args.first.now) (records c.args.width c.args.second.now) (c.args.firsts * c.args.states) (c.args.symbols ∷ stack_bounds c.args.width (c.args.firsts * c.args.states))
    (count_stop c.pairs.invariant _ _ c.pairs-test.true refl c.from_residual.ensures c.in_err-held.ensures)

pub pairs-preserved : goal.pairs-preserved
pairs-preserved c =
    count_next c.pairs.invariant _ _ c.pairs-test.true c.add_pair.auto.keys refl c.in_ok-held.ensures

pub returns : goal.returns
returns c =
    all_collected c.args.states (records c.args.width c.args.first.now) (records c.args.width c.args.second.now) (c.args.firsts * c.args.states) (c.args.symbols ∷ stack_bounds c.args.width (c.args.firsts * c.args.states)) (counted c.pairs.invariant (omega (arith, c.pairs-test.false)))
