-- `sat_trial::literal_holds` meets its contract. Assumes nothing.
use native.Mathlib.Omega.{arith}
use Rattle.sat_trial.proofs.Trying as laws
use Rattle.sat_trial.proofs.literal_holds.Goals as goal

pub returns-then-values-from-eq1 : goal.returns-then-values-from-eq1
returns-then-values-from-eq1 c =
    laws.literal-true c.args.values.now c.args.l c.from.ensures (omega (arith, c.requires, c.from.ensures)) c.if-values-from-eq1.true

pub returns : goal.returns
returns c =
    laws.literal-other c.args.values.now c.args.l c.from.ensures (omega (arith, c.requires, c.from.ensures)) c.if-values-from-eq1.false
