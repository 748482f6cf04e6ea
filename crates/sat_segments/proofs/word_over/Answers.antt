-- `sat_segments::word_over` meets its contract. The loop's invariant: the word so far is that of the variables from i on. Assumes nothing.
use native.Mathlib.Omega.{arith}
use Prim.Native.Nat.{◌<◌}
use Rattle.sat_segments.proofs.Gathering as laws
use Rattle.sat_segments.proofs.word_over.Goals as goal

-- ---- what is left

pub variables-init : goal.variables-init
variables-init c = laws.gathering _ c.requires.0

pub overflow_mul-at : goal.overflow_mul-at
overflow_mul-at c =
    let small : c.from.result < 780 = laws.variable-small c.requires.0 c.variables.invariant c.variables-test.true c.from.ensures in
    omega (arith, small)

pub overflow_add-at : goal.overflow_add-at
overflow_add-at c =
    let small : c.from.result < 780 = laws.variable-small c.requires.0 c.variables.invariant c.variables-test.true c.from.ensures in
    omega (arith, small, c.requires.1)

pub bounds-masks-at : goal.bounds-masks-at
bounds-masks-at c =
    let small : c.from.result < 780 = laws.variable-small c.requires.0 c.variables.invariant c.variables-test.true c.from.ensures in
    omega (arith, small, c.requires.0.long, c.requires.1)

pub variables-preserved : goal.variables-preserved
variables-preserved c =
    laws.gather_on c.requires.0 c.variables.invariant c.variables-test.true c.from.ensures

pub returns : goal.returns
returns c = laws.gather_all c.requires.0 c.variables.invariant c.variables-test.false
