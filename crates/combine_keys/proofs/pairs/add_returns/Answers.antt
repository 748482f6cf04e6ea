-- `combine_keys::pairs::add_returns` meets its contract: nothing where a block is empty, else the returns over each pair. Assumes nothing.
use Prim.Native.Nat.{◌+◌, ◌*◌}
use mathlib.Core.Path.{sym, ◌∙◌}
use borrow.Author.Tests.{eqb-true}
use Rattle.table_spec.specs.File.{records}
use Rattle.combine_keys.proofs.Products.{first_asked, ready_as, blocks_ready, first-empty, second_empty, returns_added}
use Rattle.combine_keys.proofs.pairs.add_returns.Goals as goal

pub block-own-requires : goal.block-own-requires
block-own-requires c = first_asked (ready_as c.requires.0 c.args.both.ready) c.requires.1 c.requires.2 c.narrow.ensures c.narrow-by.ensures

pub returns-then-is_empty : goal.returns-then-is_empty
returns-then-is_empty c =
    first-empty (c.args.pair * 256 + c.args.symbol) c.args.both.states (records 4 c.args.both.first.now) (records 4 c.args.both.second.now) c.block-own.result.now c.block-other.result.now (c.args.both.firsts * c.args.both.states) c.args.pair
    c.narrow.ensures c.narrow-2.ensures c.narrow-by.ensures c.block-own.ensures c.block-other.ensures (eqb-true _ _ (sym c.is_empty.ensures ∙ c.if-is_empty.true))

pub returns-then-is_empty-2 : goal.returns-then-is_empty-2
returns-then-is_empty-2 c =
    second_empty (c.args.pair * 256 + c.args.symbol) c.args.both.states (records 4 c.args.both.first.now) (records 4 c.args.both.second.now) c.block-own.result.now c.block-other.result.now (c.args.both.firsts * c.args.both.states) c.args.pair
    c.narrow.ensures c.narrow-2.ensures c.narrow-by.ensures c.block-own.ensures c.block-other.ensures (eqb-true _ _ (sym c.is_empty-2.ensures ∙ c.if-is_empty-2.true))

pub add_over-requires : goal.add_over-requires
add_over-requires c =
    blocks_ready (ready_as c.requires.0 c.args.both.ready) c.block-own.result.now c.block-other.result.now _ _ c.requires.1 c.requires.2 c.block-own.ensures c.block-other.ensures

pub returns : goal.returns
returns c =
    returns_added (c.args.pair * 256 + c.args.symbol) c.args.both.states (records 4 c.args.both.first.now) (records 4 c.args.both.second.now) c.block-own.result.now c.block-other.result.now (c.args.both.firsts * c.args.both.states) c.args.pair
    c.narrow.ensures c.narrow-2.ensures c.narrow-by.ensures c.block-own.ensures c.block-other.ensures c.add_over.ensures
