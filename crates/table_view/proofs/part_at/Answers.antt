-- `table_view::part_at` meets its contract: each arm hands back the bytes between its section's start and the next one's. Assumes nothing.
use mathlib.Core.Path.{◌∙◌}
use Rattle.table_view.proofs.Parts.{of_symbols, of_states_lem, of_internals, of_calls, of_returns}
use Rattle.table_view.proofs.part_at.Goals as goal

pub returns-in-Symbols : goal.returns-in-Symbols
returns-in-Symbols c = c.between.ensures ∙ of_symbols _ _ _ c.in-Symbols.is

pub returns-in-States : goal.returns-in-States
returns-in-States c = c.between-in-States.ensures ∙ of_states_lem _ _ _ c.in-States.is

pub returns-in-Internals : goal.returns-in-Internals
returns-in-Internals c = c.between-in-Internals.ensures ∙ of_internals _ _ _ c.in-Internals.is

pub returns-in-Calls : goal.returns-in-Calls
returns-in-Calls c = c.between-in-Calls.ensures ∙ of_calls _ _ _ c.in-Calls.is

pub returns-in-Returns : goal.returns-in-Returns
returns-in-Returns c = c.between-in-Returns.ensures ∙ of_returns _ _ _ c.end_of.ensures c.in-Returns.is
