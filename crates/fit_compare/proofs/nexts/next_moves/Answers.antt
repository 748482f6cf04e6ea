-- `fit_compare::nexts::next_moves` meets its contract. The invariant: the places below i are filled. Assumes nothing.
use borrow.Author.Rules.{rules}
use Rattle.fit_compare.proofs.Targets.{filling, fill_on, filled, next-moves, moves-most}
use mathlib.Core.Path.{◌∙◌}
use mathlib.Core.List.{[], ◌∷◌}
use Rattle.table_spec.specs.File.{records}
use Rattle.fit_spec.specs.Fit.{after}
use Rattle.fit_compare.proofs.nexts.next_moves.Goals as goal

pub moves-init : goal.moves-init
moves-init c = filling _ 800

pub target_of-requires : goal.target_of-requires
target_of-requires c = (search rules, c.requires.in_order)

pub moves-preserved : goal.moves-preserved
moves-preserved c =
    fill_on c.moves.invariant c.moves-test.true (c.target_of.ensures _ c.move_key-wanted.ensures ∙ (λ j. after (records 3 c.args.section.now) c.args.sink (c.narrow.ensures j ∷ c.narrow-in-moves.ensures j ∷ [])))

pub returns : goal.returns
returns c =
    let d = filled c.moves.invariant c.moves-test.false in
    (next-moves c.requires.few d, moves-most c.requires c.moves.invariant.long d)
