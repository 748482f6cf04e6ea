-- `check_sections::clear` meets its contract: the word of a record of these states, and of no other. Assumes nothing.
use Rattle.check_sections.proofs.Rooms.{clear_own, clear_other}
use Rattle.lists.specs.Bits.{has_bit}
use mathlib.Core.Path.{sym, ap, ◌∙◌}
use native.Mathlib.Omega.{arith}
use Rattle.check_sections.proofs.clear.Goals as goal

pub returns-then-has_bit : goal.returns-then-has_bit
returns-then-has_bit c =
    clear_own _ _ _ _ (ap (has_bit c.args.own) (sym c.from.ensures) ∙ sym c.has_bit.ensures ∙ c.if-has_bit.true) c.place_of-place.ensures.0

pub returns-else-has_bit : goal.returns-else-has_bit
returns-else-has_bit c =
    clear_other _ _ _ _ (ap (has_bit c.args.own) (sym c.from.ensures) ∙ sym c.has_bit.ensures ∙ c.if-has_bit.false)
