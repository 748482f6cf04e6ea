-- `table_view::state_at` meets its contract: the byte is read where the states' part has it. Assumes nothing.
use Rattle.table_view.proofs.Parts.{state-there, state-past}
use Rattle.table_view.proofs.state_at.Goals as goal

pub returns-then-q-states : goal.returns-then-q-states
returns-then-q-states c = state-there _ _ _ c.part_at-states.ensures

pub returns : goal.returns
returns c = state-past _ _ _ c.part_at-states.ensures c.if-q-states.false
