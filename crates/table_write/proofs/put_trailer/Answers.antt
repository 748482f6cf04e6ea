-- `table_write::put_trailer` meets its contract. Assumes nothing.
use Rattle.table_write.specs.Tables.{trailer_from}
use Rattle.table_spec.specs.File.{bytes16}
use borrow.Author.Rules.{rules}
use Rattle.table_write.proofs.put_trailer.Goals as goal

pub put_words-requires : goal.put_words-requires
unfolding bytes16
put_words-requires c = search rules

pub returns : goal.returns
unfolding trailer_from
returns c = c.put_words.ensures
