-- `uses::lines::uses_in` meets its contract: the four bytes are below 256, so that the number fits. Assumes nothing.
use borrow.Author.Rules.{rules}
use Rattle.uses_spec.specs.Uses.{line_of}
use Rattle.uses.proofs.lines.uses_in.Goals as goal

pub returns-clause-value : goal.returns-clause-value
unfolding line_of
returns-clause-value c = search rules
