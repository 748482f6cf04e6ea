-- `table_write::put_keys` meets its contract: the records of the keys from here on are still to be written. Assumes nothing.
use Rattle.table_write.specs.Keys.{record_of}
use Rattle.table_write.proofs.Writing.{Listing}
use Rattle.lists.specs.Lists.{concat_map, over}
use Rattle.table_write.proofs.put_keys.Given as goal

abbrev pub invariant-keys : goal.invariant-keys
invariant-keys l = Listing (record_of l.width) l.keys (over (concat_map (record_of l.width) l.keys) l.initial.out) l.out l.at l.key-index
