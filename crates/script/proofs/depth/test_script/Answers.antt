-- `script::depth::test_script` meets its contract. Assumes nothing.
use Rattle.script_spec.specs.Script.{script_tests}
use Rattle.lists.proofs.Refusals.{passes, fails, no_test}
use Rattle.refusals.proofs.Numbers.{refused_by, ok_by}
use mathlib.Core.Bool.{not}
use mathlib.Core.Path.{sym, ap, ◌∙◌}
use Rattle.script.proofs.depth.test_script.Goals as goal

pub returns-then-not-symbols_fit : goal.returns-then-not-symbols_fit
unfolding script_tests
returns-then-not-symbols_fit c = refused_by tt (fails 30 _ (sym c.symbols_fit.ensures ∙ c.if-not-symbols_fit.true))

pub too_deep-requires : goal.too_deep-requires
too_deep-requires c = sym c.symbols_fit.ensures ∙ c.if-not-symbols_fit.false

pub returns-then-too_deep : goal.returns-then-too_deep
unfolding script_tests
returns-then-too_deep c = refused_by tt (passes 30 _ (sym c.symbols_fit.ensures ∙ c.if-not-symbols_fit.false) ∙ fails 31 _ (ap not (sym c.too_deep.ensures ∙ c.if-too_deep.true)))

pub returns : goal.returns
unfolding script_tests
returns c = ok_by tt (passes 30 _ (sym c.symbols_fit.ensures ∙ c.if-not-symbols_fit.false) ∙ passes 31 _ (ap not (sym c.too_deep.ensures ∙ c.if-too_deep.false)) ∙ no_test)
