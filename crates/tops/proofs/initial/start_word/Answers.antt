-- `tops::initial::start_word` meets its contract. Assumes nothing.
use borrow.Author.Tests.{eq-eqb, ne_eqb}
use Rattle.table_spec.specs.Reading.{is_initial}
use Rattle.tops.specs.First.{start_word}
use Rattle.tops.proofs.initial.start_word.Goals as goal

pub returns-then-byte-eq1 : goal.returns-then-byte-eq1
unfolding start_word is_initial
returns-then-byte-eq1 c = rw (eq-eqb _ _ c.if-byte-eq1.true, start_word) c.bit.ensures

pub returns : goal.returns
unfolding start_word is_initial
returns c = rw (ne_eqb _ _ c.if-byte-eq1.false, start_word)
