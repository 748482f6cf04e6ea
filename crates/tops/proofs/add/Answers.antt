-- `tops::add` meets its contract: the word after q is or-ed with w. Assumes nothing.
use borrow.Author.Rules.{rules}
use Rattle.tops_spec.specs.Tops.{add}
use Rattle.tops.proofs.add.Goals as goal

pub returns : goal.returns
unfolding add
returns c = search rules
