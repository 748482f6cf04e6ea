-- `uses::lines::state_in` meets its contract: the first byte. Assumes nothing.
use borrow.Author.Rules.{rules}
use Rattle.uses_spec.specs.Uses.{line_of}
use Rattle.uses.proofs.lines.state_in.Goals as goal

pub returns : goal.returns
unfolding line_of
returns c = search rules
