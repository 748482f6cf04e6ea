-- `fit_worklist::quick` meets its contract: from no links to all internals, then looks. Assumes nothing.
use Rattle.fit_links.proofs.Quickly.{no_links}
use Rattle.fit_worklist.proofs.quick.Goals as goal

pub returns : goal.returns
returns c =
    λ s t i d e x. (c.looks.ensures s t d e record { rows = x; links = c.inner_links.ensures s t _ i (no_links i.counts c.requires.0.few c.requires.0.pushes_go.few) }).rows
