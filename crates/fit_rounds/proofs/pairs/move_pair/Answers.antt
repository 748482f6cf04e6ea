-- `fit_rounds::pairs::move_pair` meets its contract. Assumes nothing.
use mathlib.Core.Path.{sym, ◌∙◌, subst}
use Rattle.fit_rounds.specs.declared.pairs.Kind.{Kind}
use Rattle.fit_rounds.specs.Rows.{Turns, step_kind}
use Rattle.fit_rounds.proofs.Passing.{internal_turns, call_turns, call_none}
use Rattle.fit_rounds.proofs.pairs.move_pair.Goals as goal

pub returns-in-Internal : goal.returns-in-Internal
returns-in-Internal c =
    λ k n lu lv. subst (λ (d : Kind). Turns k n c.args.rows.now c.join.new.rows (step_kind d c.args.u c.args.v)) (sym c.in-Internal.is) (internal_turns c.args.u c.args.v c.join.ensures k n lu lv)

pub returns-then-any : goal.returns-then-any
returns-then-any c =
    λ k n lu lv. subst (λ (d : Kind). Turns k n c.args.rows.now c.put.new.rows (step_kind d c.args.u c.args.v)) (sym c.in-Call.is) (call_turns c.args.u c.args.v (λ F h. sym c.if-any.true ∙ c.any.ensures F h) c.put.ensures k n lu lv)

pub returns-else-any : goal.returns-else-any
returns-else-any c =
    λ k n lu lv. subst (λ (d : Kind). Turns k n c.args.rows.now c.args.rows.now (step_kind d c.args.u c.args.v)) (sym c.in-Call.is) (call_none c.args.u c.args.v (λ F h. sym c.if-any.false ∙ c.any.ensures F h) k n)
