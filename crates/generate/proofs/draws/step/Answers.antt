-- `generate::draws::step` meets its contract: both wrap modulo 2 to the 32. Assumes nothing.
use Rattle.generate.proofs.Steps.{stepped}
use Rattle.generate.proofs.draws.step.Goals as goal

pub returns : goal.returns
returns c = stepped _ c.wrapping_mul.ensures c.wrapping_add_u32.ensures.value
