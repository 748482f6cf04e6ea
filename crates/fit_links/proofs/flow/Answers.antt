-- `fit_links::flow` meets its contract: what flows along a link are tops. Assumes nothing.
use Rattle.fit_links.proofs.Quickly.{flowed}
use Rattle.fit_links.proofs.flow.Goals as goal

pub returns : goal.returns
returns c = λ s t lu lv h p. flowed c.join.ensures lu lv h p
