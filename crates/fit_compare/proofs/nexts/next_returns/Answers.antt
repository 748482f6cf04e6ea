-- `fit_compare::nexts::next_returns` meets its contract. The invariant: the places below i are filled. Assumes nothing.
use borrow.Author.Rules.{rules}
use Rattle.fit_compare.proofs.Targets.{filling, fill_on, filled, next-returns, returns-most}
use mathlib.Core.Path.{◌∙◌}
use mathlib.Core.List.{[], ◌∷◌}
use Rattle.table_spec.specs.File.{records}
use Rattle.fit_spec.specs.Fit.{after}
use Rattle.fit_compare.proofs.nexts.next_returns.Goals as goal

pub returns-init : goal.returns-init
returns-init c = filling _ 20000

pub target_of-requires : goal.target_of-requires
target_of-requires c = (search rules, c.requires.in_order)

pub returns-preserved : goal.returns-preserved
returns-preserved c =
    fill_on c.returns.invariant c.returns-test.true (c.target_of.ensures _ c.return_key-wanted.ensures ∙ (λ j. after (records 4 c.args.section.now) c.args.sink (c.narrow.ensures j ∷ c.narrow-in-returns.ensures j ∷ c.narrow-in-returns-2.ensures j ∷ [])))

pub returns : goal.returns
returns c =
    let d = filled c.returns.invariant c.returns-test.false in
    (next-returns c.requires.few d, returns-most c.requires c.returns.invariant.long d)
