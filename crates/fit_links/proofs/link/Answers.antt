-- `fit_links::link` meets its contract: a link, and what flows along it. Assumes nothing.
use Rattle.fit_links.proofs.Quickly.{linked}
use Rattle.fit_links.proofs.link.Goals as goal

pub returns : goal.returns
returns c = λ s t ly lv h x. record { rows = c.flow.ensures s t ly lv h x.rows; links = linked c.put.ensures ly h x.links }
