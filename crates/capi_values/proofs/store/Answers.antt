-- `capi_values::store` meets its contract: the values stand in front of what the buffer held. Assumes nothing.
use mathlib.Core.Path.{sym}
use Rattle.lists.specs.Lists.{over}
use Rattle.capi_values.proofs.Storing.{stored-all, stored_short}
use Rattle.capi_values.proofs.store.Goals as goal

pub returns-then-values-answer : goal.returns-then-values-answer
returns-then-values-answer c = sym (stored_short _ _ c.if-values-answer.true)

pub returns : goal.returns
unfolding over
returns c = rw c.copy_from_slice.ensures.after (sym (stored-all _ _ c.if-values-answer.false))
