-- `sat_trial::hold` meets its contract. The loop's invariant: the values passed are those held. Assumes nothing.
use native.Mathlib.Omega.{arith}
use Rattle.lists.proofs.Copying.{same_length as written-length}
use Rattle.sat_trial.proofs.Trying as laws
use Rattle.sat_trial.proofs.hold.Goals as goal

pub variables-init : goal.variables-init
variables-init c = laws.holding c.args.holds _

pub variables-preserved : goal.variables-preserved
variables-preserved c =
    laws.hold_on c.args.holds c.variables.invariant (omega (arith, written-length c.variables.invariant, c.variables-test.true)) c.held_value.ensures

pub returns : goal.returns
returns c = laws.hold_all c.args.holds c.variables.invariant (omega (arith, written-length c.variables.invariant, c.variables-test.false))
