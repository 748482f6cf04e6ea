-- `check_matching::return_met` meets its contract: the stack states before this one match the return. Assumes nothing.
use Rattle.lists.proofs.Upto.{all-passed, all_failed, all_done}
use mathlib.Core.Path.{sym, ◌∙◌}
use Rattle.check_matching.proofs.return_met.Goals as goal

pub returns-then-not-return_matched : goal.returns-then-not-return_matched
returns-then-not-return_matched c = all_failed _ c.states.invariant c.states-test.true (sym c.return_matched.ensures ∙ c.if-not-return_matched.true)

pub states-preserved : goal.states-preserved
states-preserved c = all-passed _ c.states.invariant c.states-test.true (sym c.return_matched.ensures ∙ c.if-not-return_matched.false)

pub returns : goal.returns
returns c = all_done _ c.states.invariant c.states-test.false
