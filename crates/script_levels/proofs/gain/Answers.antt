-- `script_levels::gain` meets its contract. Assumes nothing.
use Rattle.script_levels.proofs.Stepping.{gain-internal, gain-none, gain-call}
use mathlib.Core.Path.{refl, ◌∙◌}
use Rattle.script_levels.proofs.gain.Goals as goal

pub returns-then-not-call : goal.returns-then-not-call
returns-then-not-call c = gain-internal _ _ refl c.if-not-call.true

pub returns-then-word-eq0 : goal.returns-then-word-eq0
returns-then-word-eq0 c = gain-none _ _ refl c.if-not-call.false c.if-word-eq0.true

pub returns : goal.returns
returns c = c.bit.ensures ∙ gain-call _ _ refl c.if-not-call.false c.if-word-eq0.false
