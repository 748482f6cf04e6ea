-- `fit_links::gain` meets its contract. Assumes nothing.
use Rattle.fit_links.proofs.Quickly.{gained}
use Rattle.fit_links.proofs.gain.Goals as goal

pub returns : goal.returns
returns c = λ s t lv lx h p. gained c.put.ensures lv lx h p
