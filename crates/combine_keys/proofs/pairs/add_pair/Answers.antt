-- `combine_keys::pairs::add_pair` meets its contract: the records by the symbols so far are added. Assumes nothing.
use Prim.Native.Nat.{◌*◌}
use native.Mathlib.Omega.{arith}
use mathlib.Core.Path.{refl}
use Rattle.table_spec.specs.File.{records}
use Rattle.combine_keys.specs.Factors.{stack_bounds}
use Rattle.combine_keys.proofs.Adding.{count_next, count_stop, counted}
use Rattle.combine_keys.proofs.Products.{pair_added}
use Rattle.combine_keys.proofs.pairs.add_pair.Goals as goal

pub returns-in_err-held : goal.returns-in_err-held
returns-in_err-held c =
    pair_added c.args.both.states (records c.args.both.width c.args.both.first.now) (records c.args.both.width c.args.both.second.now) c.args.symbols (stack_bounds c.args.both.width (c.args.both.firsts * c.args.both.states)) c.args.pair
    (count_stop c.symbols.invariant _ _ c.symbols-test.true refl c.from_residual.ensures c.in_err-held.ensures)

pub symbols-preserved : goal.symbols-preserved
symbols-preserved c =
    count_next c.symbols.invariant _ _ c.symbols-test.true c.add_symbol.auto.keys refl c.in_ok-held.ensures

pub returns : goal.returns
returns c =
    pair_added c.args.both.states (records c.args.both.width c.args.both.first.now) (records c.args.both.width c.args.both.second.now) c.args.symbols (stack_bounds c.args.both.width (c.args.both.firsts * c.args.both.states)) c.args.pair (counted c.symbols.invariant (omega (arith, c.symbols-test.false)))
