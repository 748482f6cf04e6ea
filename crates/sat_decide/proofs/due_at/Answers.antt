-- `sat_decide::due_at` meets its contract. Assumes nothing.
use Rattle.std.proofs.Common.{sym}
use Rattle.sat_decide.proofs.Seeking.{unset_found, unset_none}
use Rattle.sat_decide.proofs.due_at.Goals as goal

pub returns-in_default : goal.returns-in_default
returns-in_default c = unset_none _ _ c.requires (sym c.in_default.ensures)

pub returns-then-made-budget : goal.returns-then-made-budget
returns-then-made-budget c = (record { variable = _; lowest = unset_found _ _ c.requires (sym c.in-Some.ensures) }, c.if-made-budget.true)

pub returns : goal.returns
returns c = (unset_found _ _ c.requires (sym c.in-Some.ensures), c.if-made-budget.false)
