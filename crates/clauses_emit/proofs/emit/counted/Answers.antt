-- `clauses_emit::emit::counted` meets its contract. Assumes nothing.
use Rattle.clauses_emit.proofs.Emitting.{counted-full, counted-more}
use Rattle.clauses_emit.proofs.emit.counted.Goals as goal

pub returns-then-room-tally : goal.returns-then-room-tally
returns-then-room-tally c = counted-full _ _ _ c.if-room-tally.true

pub returns : goal.returns
returns c = counted-more _ _ _ c.if-room-tally.false
