-- `fit_worklist::spread` meets its contract. The invariant: the rows hold tops only. Assumes nothing.
use mathlib.Core.Path.{sym, ◌∙◌}
use native.Mathlib.Omega.{arith}
use Rattle.fit_links.proofs.Quickly.{spreading, spread_on}
use Rattle.fit_worklist.proofs.spread.Goals as goal

pub links-init : goal.links-init
links-init c = spreading _ _ _ _

pub links-smaller-then-links-u-eq0 : goal.links-smaller-then-links-u-eq0
links-smaller-then-links-u-eq0 c = omega (arith, c.links-test.true)

pub links-preserved-then-links-u-eq0 : goal.links-preserved-then-links-u-eq0
links-preserved-then-links-u-eq0 c = c.links.invariant

pub links-smaller-then-not-held : goal.links-smaller-then-not-held
links-smaller-then-not-held c = omega (arith, c.links-test.true)

pub links-preserved-then-not-held : goal.links-preserved-then-not-held
links-preserved-then-not-held c = c.links.invariant

pub links-smaller : goal.links-smaller
links-smaller c = omega (arith, c.links-test.true)

pub links-preserved : goal.links-preserved
links-preserved c =
    spread_on c.links.invariant c.links-test.true (λ F h. sym c.if-not-held.false ∙ c.held.ensures F h) c.flow.ensures

pub returns : goal.returns
returns c = c.links.invariant.kept
