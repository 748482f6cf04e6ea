-- `table_write::put_keys` meets its contract: the records of the keys from here on are still to be written. Assumes nothing.
use Rattle.table_write.proofs.Keys.{length_last}
use Rattle.table_write.proofs.Writing.{key-room, key-listed, listed, part_put}
use borrow.Author.Rules.{rules}
use Rattle.table_write.proofs.put_keys.Goals as goal

pub put_key-requires : goal.put_key-requires
put_key-requires c = let h = key-room c.keys.invariant (λ k. length_last c.args.width k c.requires.0) c.keys-test.true in search rules

pub keys-preserved : goal.keys-preserved
keys-preserved c =
    key-listed c.keys.invariant (λ k. length_last c.args.width k c.requires.0) c.keys-test.true (part_put _ c.keys.out c.keys.at c.put_key.ensures)

pub returns : goal.returns
returns c = listed c.keys.invariant c.keys-test.false
