-- `generate::write::state_byte` meets its contract: first, last, both or neither. Assumes nothing.
use Rattle.generate_spec.proofs.Bytes.{byte_both, byte_last, byte_first, byte_plain}
use Rattle.generate.proofs.write.state_byte.Goals as goal

pub returns-then-state-eq0 : goal.returns-then-state-eq0
returns-then-state-eq0 c = byte_both _ _ c.if-state-states.true c.if-state-eq0.true

pub returns-then-state-states : goal.returns-then-state-states
returns-then-state-states c = byte_last _ _ c.if-state-states.true c.if-state-eq0.false

pub returns-then-state-eq0-2 : goal.returns-then-state-eq0-2
returns-then-state-eq0-2 c = byte_first _ _ c.if-state-states.false c.if-state-eq0-2.true

pub returns : goal.returns
returns c = byte_plain _ _ c.if-state-states.false c.if-state-eq0-2.false
