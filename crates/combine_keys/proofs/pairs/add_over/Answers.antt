-- `combine_keys::pairs::add_over` meets its contract: the returns over the pairs so far are added. Assumes nothing.
use Prim.Native.Nat.{◌+◌, ◌*◌}
use native.Mathlib.Omega.{arith}
use Rattle.table_spec.specs.File.{records}
use Rattle.combine_keys.proofs.Adding.{count_next, count_stop, counted}
use Rattle.combine_keys.proofs.Products.{one-pushed, over_added}
use Rattle.combine_keys.proofs.pairs.add_over.Goals as goal

pub returns-in_err-held : goal.returns-in_err-held
returns-in_err-held c =
    over_added (c.args.pair * 256 + c.args.symbol) c.args.states (records 4 c.args.first.now) (records 4 c.args.second.now) c.args.pairs c.args.pair c.args.symbol
    (count_stop c.pushed.invariant _ _ c.pushed-test.true
    (one-pushed c.requires ((c.args.pair * 256 + c.args.symbol) * 256 + c.pushed.pushed) c.equal_range-own.result.now c.equal_range-other.result.now c.pushed.pushed c.narrow-p.ensures c.narrow-q.ensures c.narrow-by.ensures c.narrow.ensures c.narrow-in-pushed.ensures
    c.return_key.ensures c.return_key-in-pushed.ensures c.equal_range-own.ensures c.equal_range-other.ensures)
    c.from_residual.ensures c.in_err-held.ensures)

pub pushed-preserved : goal.pushed-preserved
pushed-preserved c =
    count_next c.pushed.invariant _ _ c.pushed-test.true c.add_targets.auto.keys
    (one-pushed c.requires ((c.args.pair * 256 + c.args.symbol) * 256 + c.pushed.pushed) c.equal_range-own.result.now c.equal_range-other.result.now c.pushed.pushed c.narrow-p.ensures c.narrow-q.ensures c.narrow-by.ensures c.narrow.ensures c.narrow-in-pushed.ensures
    c.return_key.ensures c.return_key-in-pushed.ensures c.equal_range-own.ensures c.equal_range-other.ensures)
    c.in_ok-held.ensures

pub returns : goal.returns
returns c =
    over_added (c.args.pair * 256 + c.args.symbol) c.args.states (records 4 c.args.first.now) (records 4 c.args.second.now) c.args.pairs c.args.pair c.args.symbol (counted c.pushed.invariant (omega (arith, c.pushed-test.false)))
