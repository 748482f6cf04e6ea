-- `sat_solve::worth_simplifying` meets its contract: each length by its test. Assumes nothing.
use Rattle.sat_solve.proofs.Worth.{short, middle, long}
use Rattle.sat_solve.proofs.worth_simplifying.Goals as goal

pub returns-then-words-le4096 : goal.returns-then-words-le4096
returns-then-words-le4096 c = short _ _ _ c.if-words-le4096.true

pub returns-then-words-le32768 : goal.returns-then-words-le32768
returns-then-words-le32768 c = middle _ _ _ c.if-words-le4096.false c.if-words-le32768.true

pub returns : goal.returns
returns c = long _ _ _ c.if-words-le32768.false
