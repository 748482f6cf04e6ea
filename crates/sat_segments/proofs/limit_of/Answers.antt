-- `sat_segments::limit_of` meets its contract: each way by its test. Assumes nothing.
use Rattle.sat_segments.proofs.Cutting.{limit_last, limit_short, limit_more}
use Rattle.sat_segments.proofs.limit_of.Goals as goal

pub returns-then-k-eq1023 : goal.returns-then-k-eq1023
returns-then-k-eq1023 c = limit_last _ _ _ c.if-k-eq1023.true

pub returns-then-words-at : goal.returns-then-words-at
returns-then-words-at c = limit_short _ _ _ c.if-k-eq1023.false c.if-words-at.true

pub returns : goal.returns
returns c = limit_more _ _ _ c.if-k-eq1023.false c.if-words-at.false
