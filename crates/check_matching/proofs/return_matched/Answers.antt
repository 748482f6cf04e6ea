-- `check_matching::return_matched` meets its contract, test by test. Assumes nothing.
use mathlib.Core.Path.{sym, ◌∙◌}
use mathlib.Core.List.{[], ◌∷◌}
use lib.ListN.{get_or}
use Rattle.check_matching.proofs.Matched.{by_class, stack-apart, not-under, return_by}
use Rattle.check_matching.proofs.return_matched.Goals as goal

pub returns-then-not-is_in : goal.returns-then-not-is_in
returns-then-not-is_in c =
    stack-apart _ _ _ _ _ _ _ _ _ c.requires.fields_value.0 c.requires.fields_value.1 (by_class _ _ _ c.requires.section_value.4 c.is_in.ensures c.if-not-is_in.true)

pub returns-then-not-has_top : goal.returns-then-not-has_top
returns-then-not-has_top c =
    not-under _ _ _ _ _ _ _ _ _ c.requires.fields_value.0 c.requires.fields_value.1 (by_class _ _ _ c.requires.section_value.4 c.is_in.ensures c.if-not-is_in.false) (sym c.has_top.ensures ∙ c.if-not-has_top.true)

pub returns : goal.returns
returns c =
    c.reaches.ensures (c.args.q ∷ get_or c.args.fields.now 1 0 ∷ c.args.u ∷ []) c.return_key-wanted.ensures ∙ return_by _ _ _ _ _ _ _ _ _ c.requires.fields_value.0 c.requires.fields_value.1 (by_class _ _ _ c.requires.section_value.4 c.is_in.ensures c.if-not-is_in.false) (sym c.has_top.ensures ∙ c.if-not-has_top.false) c.from.ensures
