-- `check_sections::put` meets its contract: a record of these states gains its bit, any other changes nothing. Assumes nothing.
use Rattle.check_sections.proofs.Rooms.{bit-small, gain-own, gain-other}
use Rattle.lists.specs.Bits.{has_bit}
use mathlib.Core.Path.{sym, ap, ◌∙◌}
use Prim.Native.Nat.{ℕ, ◌^◌}
use native.Mathlib.Omega.{arith}
use Rattle.check_sections.proofs.put.Goals as goal

pub bit-requires : goal.bit-requires
bit-requires c =
    omega (arith, c.bit_of.ensures, bit-small c.requires)

pub returns-then-has_bit : goal.returns-then-has_bit
returns-then-has_bit c =
    gain-own _ _ _ _ (ap (has_bit c.args.own) (sym c.from.ensures) ∙ sym c.has_bit.ensures ∙ c.if-has_bit.true) c.place_of-place.ensures.0 (c.bit.ensures ∙ ap (λ (v : ℕ). 2 ^ v) c.bit_of.ensures)

pub returns-else-has_bit : goal.returns-else-has_bit
returns-else-has_bit c =
    gain-other _ _ _ _ (ap (has_bit c.args.own) (sym c.from.ensures) ∙ sym c.has_bit.ensures ∙ c.if-has_bit.false)
