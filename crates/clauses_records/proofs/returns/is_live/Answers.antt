-- `clauses_records::returns::is_live` meets its contract. Assumes nothing.
use mathlib.Core.Path.{◌∙◌}
use Rattle.lists.specs.Bits.{has}
use Rattle.clauses_records.proofs.returns.is_live.Goals as goal

pub returns : goal.returns
unfolding has
returns c = c.has_bit.ensures ∙ rw (c.from.ensures, c.from-2.ensures)
