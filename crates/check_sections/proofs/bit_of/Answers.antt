-- `check_sections::bit_of` meets its contract: the state of a move, the stack state of a return. Assumes nothing.
use Rattle.check_sections.proofs.Rooms.{move_bit, return-bit}
use Rattle.check_sections.proofs.bit_of.Goals as goal

pub returns-then-fields-lt4 : goal.returns-then-fields-lt4
returns-then-fields-lt4 c =
    move_bit _ c.if-fields-lt4.true c.from.ensures

pub returns : goal.returns
returns c =
    return-bit _ c.if-fields-lt4.false c.from-2.ensures
