-- `sat_units::propagate_units` meets its contract. The loop's invariant: each clause seen to is settled, or one of its variables was set. Assumes nothing.
use native.Mathlib.Omega.{arith}
use mathlib.Core.Path.{refl, sym, ◌∙◌}
use Rattle.sat_units.proofs.Units as laws
use Rattle.sat_units.proofs.propagate_units.Goals as goal

pub noted-init : goal.noted-init
noted-init c =
    (laws.hearing c.requires.ready.0 c.requires.units_noted, c.requires.pair_table.1)

pub bounds-counters-from : goal.bounds-counters-from
bounds-counters-from c =
    laws.word-inside c.noted.invariant.0 c.noted-test.true c.from.ensures refl

pub returns-then-w-lt2048 : goal.returns-then-w-lt2048
returns-then-w-lt2048 c =
    (laws.hear_none c.noted.invariant.0 c.noted-test.true c.from.ensures refl c.if-w-lt2048.true, c.noted.invariant.1)

pub overflow_cast-m : goal.overflow_cast-m
overflow_cast-m c =
    omega (arith, laws.light c.noted.invariant.0 c.noted-test.true c.from.ensures refl)

pub is_true-requires : goal.is_true-requires
is_true-requires c =
    laws.literal-inside c.noted.invariant.0 c.noted-test.true c.from.ensures refl c.if-w-lt2048.false refl

pub noted-preserved-then-is_true : goal.noted-preserved-then-is_true
noted-preserved-then-is_true c =
    (laws.hear_right c.noted.invariant.0 c.noted-test.true c.from.ensures refl c.if-w-lt2048.false refl (sym c.is_true.ensures ∙ c.if-is_true.true), c.noted.invariant.1)

pub is_unset-requires : goal.is_unset-requires
is_unset-requires c =
    laws.literal-inside c.noted.invariant.0 c.noted-test.true c.from.ensures refl c.if-w-lt2048.false refl

pub force-count-requires : goal.force-count-requires
force-count-requires c =
    record { pair_table = c.requires.pair_table.0; settable = laws.can_hear c.noted.invariant.0 c.noted-test.true c.from.ensures refl c.if-w-lt2048.false refl (sym c.is_unset.ensures ∙ c.if-is_unset.true) c.noted.invariant.1 }

pub noted-preserved : goal.noted-preserved
noted-preserved c =
    (laws.hear_forced c.noted.invariant.0 c.noted-test.true c.from.ensures refl c.if-w-lt2048.false refl (sym c.is_unset.ensures ∙ c.if-is_unset.true) c.force-count.ensures, c.force-count.ensures.assigned.rows)

pub returns-in-noted : goal.returns-in-noted
returns-in-noted c =
    (laws.hear_false c.noted.invariant.0 c.noted-test.true c.from.ensures refl c.if-w-lt2048.false refl (sym c.is_true.ensures ∙ c.if-is_true.false) (sym c.is_unset.ensures ∙ c.if-is_unset.false), c.noted.invariant.1)

pub returns : goal.returns
returns c =
    (laws.heard_all c.noted.invariant.0 c.noted-test.false, c.noted.invariant.1)
