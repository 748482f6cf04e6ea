-- `table_write::put_words` meets its contract: the words from here on are still to be written. Assumes nothing.
use Rattle.table_write.proofs.Writing.{length-word, key-room, key-listed, listed, part_put}
use borrow.Author.Rules.{rules}
use Rattle.table_write.proofs.put_words.Goals as goal

pub put_word-requires : goal.put_word-requires
put_word-requires c = let h = key-room c.words.invariant length-word c.words-test.true in search rules

pub words-preserved : goal.words-preserved
words-preserved c =
    key-listed c.words.invariant length-word c.words-test.true (part_put _ c.words.out c.words.at c.put_word.ensures)

pub returns : goal.returns
returns c = listed c.words.invariant c.words-test.false
