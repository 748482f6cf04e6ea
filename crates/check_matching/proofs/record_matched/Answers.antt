-- `check_matching::record_matched` meets its contract: a move, or a return. Assumes nothing.
use mathlib.Core.Path.{sym, ◌∙◌, subst}
use mathlib.Core.List.{[], ◌∷◌}
use lib.ListN.{get_or}
use Rattle.table_find.specs.Keys.{Keyed}
use Rattle.check_matching.proofs.Matched.{record_move, return-lent, return-long, return-live, record_return}
use Rattle.check_matching.proofs.record_matched.Goals as goal

pub returns-then-width-eq3 : goal.returns-then-width-eq3
returns-then-width-eq3 c =
    let k = subst (λ w. Keyed w (c.args.q ∷ get_or c.args.fields.now 1 0 ∷ []) c.move_key-wanted.result) (sym c.if-width-eq3.true) c.move_key-wanted.ensures in
    c.reaches.ensures (c.args.q ∷ get_or c.args.fields.now 1 0 ∷ []) k ∙ record_move _ _ _ _ _ _ _ c.if-width-eq3.true c.requires.q_value.0 c.from.ensures

pub return_met-requires : goal.return_met-requires
return_met-requires c =
    let l = c.requires.lent.0 in
    let x = c.if-width-eq3.false in
    let e = c.requires.lent.1 in
    record { lent = (return-lent l x, return-long l x c.args.fields.now e, c.requires.q_value.1); fields_value = (return-live l x c.args.fields.now e _ c.requires.lent.2, c.requires.q_value.0) }

pub returns : goal.returns
returns c = c.return_met.ensures ∙ record_return c.requires.lent.0 c.if-width-eq3.false _ _ _ _
