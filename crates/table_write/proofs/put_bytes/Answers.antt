-- `table_write::put_bytes` meets its contract. Assumes nothing.
use Rattle.lists.specs.Lists.{over}
use Rattle.table_write.proofs.put_bytes.Goals as goal

pub returns : goal.returns
unfolding over
returns c = rw c.copy_from_slice.ensures.after
