-- `clauses::closure` meets its contract: left out, or written. Assumes nothing.
use Rattle.clauses.proofs.Whole.{closure_left, closure_there}
use Rattle.clauses.proofs.closure.Goals as goal

pub returns-then-whole : goal.returns-then-whole
returns-then-whole c = closure_there _ _ c.if-whole.true c.transitive.ensures

pub returns : goal.returns
returns c = closure_left _ _ c.if-whole.false
