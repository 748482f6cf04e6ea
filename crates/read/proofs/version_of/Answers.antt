-- `read::version_of` meets its contract: the last number of the trailer. Assumes nothing.
use mathlib.Core.Path.{◌∙◌}
use Rattle.read.proofs.Numbers.{version-at}
use Rattle.read.proofs.version_of.Goals as goal

pub returns : goal.returns
returns c = c.word_at.ensures ∙ version-at _ c.requires
