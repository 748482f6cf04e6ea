-- `combine_keys::pairs::add_moves` meets its contract: the targets of the blocks of the two. Assumes nothing.
use Prim.Native.Nat.{◌+◌, ◌*◌}
use Rattle.table_spec.specs.File.{records}
use Rattle.combine_keys.proofs.Products.{first_asked, ready_as, moves_added}
use Rattle.combine_keys.proofs.pairs.add_moves.Goals as goal

pub block-own-requires : goal.block-own-requires
block-own-requires c = first_asked (ready_as c.requires.0 c.args.both.ready) c.requires.1 c.requires.2 c.narrow.ensures c.narrow-by.ensures

pub returns : goal.returns
returns c =
    moves_added (c.args.pair * 256 + c.args.symbol) c.args.both.states (records 3 c.args.both.first.now) (records 3 c.args.both.second.now) c.block-own.result.now c.block-other.result.now c.args.pair
    c.narrow.ensures c.narrow-2.ensures c.narrow-by.ensures c.block-own.ensures c.block-other.ensures c.add_targets.ensures
