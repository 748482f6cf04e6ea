-- `sat_trail::retract::unset` meets its contract. Assumes nothing.
use mathlib.Core.Path.{refl}
use native.Mathlib.Omega.{arith}
use Rattle.sat_trail.proofs.Setting as laws
use Rattle.sat_trail.proofs.retract.unset.Goals as goal

pub returns-then-n-eq0 : goal.returns-then-n-eq0
returns-then-n-eq0 c = laws.assigned-none c.requires.1 c.from-i.ensures c.if-n-eq0.true

pub unmark-requires : goal.unmark-requires
unmark-requires c =
    laws.pair-states c.requires.1 c.from-i.ensures (laws.pair_of_lem c.requires.1 c.requires.2 c.if-n-eq0.false c.requires.0 c.pair_of-pair.ensures)

pub returns-then-k-eq1 : goal.returns-then-k-eq1
returns-then-k-eq1 c =
    rw c.unmark.ensures (laws.unset-joined c.requires.1 c.from-i.ensures (laws.pair_of_lem c.requires.1 c.requires.2 c.if-n-eq0.false c.requires.0 c.pair_of-pair.ensures) (omega (arith, c.from-i.ensures, c.requires.2)) refl c.if-k-eq1.true)

pub unmark-requires-2 : goal.unmark-requires-2
unmark-requires-2 c =
    laws.pair-states c.requires.1 c.from-i.ensures (laws.pair_of_lem c.requires.1 c.requires.2 c.if-n-eq0.false c.requires.0 c.pair_of-pair.ensures)

pub returns : goal.returns
returns c =
    rw c.unmark-2.ensures (laws.unset-apart c.requires.1 c.from-i.ensures (laws.pair_of_lem c.requires.1 c.requires.2 c.if-n-eq0.false c.requires.0 c.pair_of-pair.ensures) (omega (arith, c.from-i.ensures, c.requires.2)) refl c.if-k-eq1.false)
