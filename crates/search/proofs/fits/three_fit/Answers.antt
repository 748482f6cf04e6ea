-- `search::fits::three_fit` meets its contract. Assumes nothing.
use mathlib.Core.Path.{sym, ◌∙◌}
use borrow.Author.Tests.{eq-eqb, ne_eqb, lt-ltb, le-ltb}
use Rattle.search.proofs.Fitting as laws
use Rattle.search.proofs.fits.three_fit.Goals as goal

pub returns-then-variables-x : goal.returns-then-variables-x
returns-then-variables-x c =
    sym (laws.three_is c.args.variables _ c.requires c.from-x.ensures c.from-y.ensures c.from-z.ensures ∙ rw (le-ltb _ _ c.if-variables-x.true))

pub returns-then-variables-y : goal.returns-then-variables-y
returns-then-variables-y c =
    sym (laws.three_is c.args.variables _ c.requires c.from-x.ensures c.from-y.ensures c.from-z.ensures ∙ rw (lt-ltb _ _ c.if-variables-x.false, le-ltb _ _ c.if-variables-y.true))

pub returns-then-variables-z : goal.returns-then-variables-z
returns-then-variables-z c =
    sym (laws.three_is c.args.variables _ c.requires c.from-x.ensures c.from-y.ensures c.from-z.ensures ∙ rw (lt-ltb _ _ c.if-variables-x.false, lt-ltb _ _ c.if-variables-y.false, le-ltb _ _ c.if-variables-z.true))

pub returns-then-x-y : goal.returns-then-x-y
returns-then-x-y c =
    sym (laws.three_is c.args.variables _ c.requires c.from-x.ensures c.from-y.ensures c.from-z.ensures ∙ rw (lt-ltb _ _ c.if-variables-x.false, lt-ltb _ _ c.if-variables-y.false, lt-ltb _ _ c.if-variables-z.false, eq-eqb _ _ c.if-x-y.true))

pub returns-then-x-z : goal.returns-then-x-z
returns-then-x-z c =
    sym (laws.three_is c.args.variables _ c.requires c.from-x.ensures c.from-y.ensures c.from-z.ensures ∙ rw (lt-ltb _ _ c.if-variables-x.false, lt-ltb _ _ c.if-variables-y.false, lt-ltb _ _ c.if-variables-z.false, ne_eqb _ _ c.if-x-y.false, eq-eqb _ _ c.if-x-z.true))

pub returns-then-y-z : goal.returns-then-y-z
returns-then-y-z c =
    sym (laws.three_is c.args.variables _ c.requires c.from-x.ensures c.from-y.ensures c.from-z.ensures ∙ rw (lt-ltb _ _ c.if-variables-x.false, lt-ltb _ _ c.if-variables-y.false, lt-ltb _ _ c.if-variables-z.false, ne_eqb _ _ c.if-x-y.false, ne_eqb _ _ c.if-x-z.false, eq-eqb _ _ c.if-y-z.true))

pub returns : goal.returns
returns c =
    sym (laws.three_is c.args.variables _ c.requires c.from-x.ensures c.from-y.ensures c.from-z.ensures ∙ rw (lt-ltb _ _ c.if-variables-x.false, lt-ltb _ _ c.if-variables-y.false, lt-ltb _ _ c.if-variables-z.false, ne_eqb _ _ c.if-x-y.false, ne_eqb _ _ c.if-x-z.false, ne_eqb _ _ c.if-y-z.false))
