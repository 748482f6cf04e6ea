-- `uses::lines::states_fit` meets its contract: a line with a state past n ends it, and the others leave the answer to the rest. Assumes nothing.
use mathlib.Core.Path.{sym, ◌∙◌}
use borrow.Author.Tests.{lt-ltb, le-ltb}
use Rattle.table_spec.proofs.Chunks.{taken, on, ended}
use Rattle.uses.proofs.Numbered.{states_tests}
use Rattle.uses.proofs.lines.states_fit.Goals as goal

pub returns-then-n-state_in : goal.returns-then-n-state_in
returns-then-n-state_in c =
    sym (taken c.lines.invariant _ _ c.in-Some.ensures.steps.1 ∙ rw (le-ltb _ _ (rw c.state_in.ensures at c.if-n-state_in.true))) ∙ sym (states_tests _ _)

pub lines-preserved : goal.lines-preserved
lines-preserved c =
    on c.lines.invariant _ _ c.in-Some.ensures.steps.0 c.in-Some.ensures.steps.1 (rw (lt-ltb _ _ (rw c.state_in.ensures at c.if-n-state_in.false)))

pub returns : goal.returns
returns c = sym (ended c.lines.invariant c.in-None.ensures.steps.1.0) ∙ sym (states_tests _ _)
