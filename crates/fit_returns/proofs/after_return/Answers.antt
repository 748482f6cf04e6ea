-- `fit_returns::after_return` meets its contract. Assumes nothing.
use Prim.Native.Nat.{◌+◌, ◌*◌}
use native.Mathlib.Omega.{arith}
use Rattle.fit_returns.proofs.after_return.Goals as goal

pub returns : goal.returns
returns c =
    (c.from.ensures, omega (arith, c.from.ensures, c.requires.0.within ((c.args.b * 32 + c.args.a) * 25 + c.args.c)))
