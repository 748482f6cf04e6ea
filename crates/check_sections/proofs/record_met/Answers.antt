-- `check_sections::record_met` meets its contract: one of other states and a dead return ask nothing. Assumes nothing.
use Rattle.check_sections.proofs.Rooms.{bit-small, asked_met}
use Rattle.check_matching.proofs.Matched.{spared, met}
use Rattle.lists.specs.Bits.{has_bit}
use mathlib.Core.Path.{sym, ap, ◌∙◌}
use native.Mathlib.Omega.{arith}
use Rattle.check_sections.proofs.record_met.Goals as goal

pub has_bit-requires : goal.has_bit-requires
has_bit-requires c =
    omega (arith, c.from.ensures, c.requires.states 0 (λ z. omega arith) (omega (arith, c.requires.least)))

pub returns-then-not-has_bit : goal.returns-then-not-has_bit
returns-then-not-has_bit c =
    sym (spared _ (ap (has_bit c.args.askers) (sym c.from.ensures) ∙ sym c.has_bit.ensures ∙ c.if-not-has_bit.true))

pub returns-then-not-keeps : goal.returns-then-not-keeps
returns-then-not-keeps c =
    sym (met (ap (has_bit c.args.askers) (sym c.from.ensures) ∙ sym c.has_bit.ensures ∙ c.if-not-has_bit.false) (spared _ (sym c.keeps.ensures ∙ c.if-not-keeps.true)))

pub offset_bounds-joined-bit_of : goal.offset_bounds-joined-bit_of
offset_bounds-joined-bit_of c =
    omega (arith, c.bit_of.ensures, bit-small c.requires)

pub bounds-joined-bit_of : goal.bounds-joined-bit_of
bounds-joined-bit_of c =
    omega (arith, c.bit_of.ensures, bit-small c.requires)

pub returns : goal.returns
returns c =
    let a = ap (has_bit c.args.askers) (sym c.from.ensures) ∙ sym c.has_bit.ensures ∙ c.if-not-has_bit.false in
    let k = sym c.keeps.ensures ∙ c.if-not-keeps.false in
    asked_met c.args.words.now c.args.joined.now c.args.askers c.args.tops c.args.room.now c.args.fields.now a k c.place_of.ensures.0 c.bit_of.ensures c.covers.ensures
