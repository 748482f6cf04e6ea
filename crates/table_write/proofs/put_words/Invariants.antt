-- `table_write::put_words` meets its contract: the words from here on are still to be written. Assumes nothing.
use Rattle.table_write.proofs.Writing.{Listing}
use Rattle.table_spec.specs.File.{bytes16}
use Rattle.lists.specs.Lists.{concat_map, over}
use Rattle.table_write.proofs.put_words.Given as goal

abbrev pub invariant-words : goal.invariant-words
invariant-words l = Listing bytes16 l.words (over (concat_map bytes16 l.words) l.initial.out) l.out l.at l.word-index
