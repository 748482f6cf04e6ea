-- `table_write::put_word` meets its contract. Assumes nothing.
use Rattle.table_spec.specs.File.{bytes16}
use Rattle.table_write.proofs.put_word.Goals as goal

pub returns : goal.returns
unfolding bytes16
returns c = c.put_bytes.ensures
