-- `generate::write::kind_of` meets its contract: one law a kind. Assumes nothing.
use Rattle.generate_spec.proofs.Bytes.{kind_internal, kind_call, kind_return}
use Rattle.generate.proofs.write.kind_of.Goals as goal

pub returns-then-symbol-internals : goal.returns-then-symbol-internals
returns-then-symbol-internals c = kind_internal _ _ _ c.if-symbol-internals.true

pub returns-then-symbol-internals-2 : goal.returns-then-symbol-internals-2
returns-then-symbol-internals-2 c = kind_call _ _ _ c.if-symbol-internals.false c.if-symbol-internals-2.true

pub returns : goal.returns
returns c = kind_return _ _ _ c.if-symbol-internals.false c.if-symbol-internals-2.false
