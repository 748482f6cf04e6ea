-- `fit_links::after_move` meets its contract. Assumes nothing.
use Prim.Native.Nat.{◌+◌, ◌*◌}
use native.Mathlib.Omega.{arith}
use Rattle.fit_links.proofs.after_move.Goals as goal

pub returns : goal.returns
returns c =
    (c.from.ensures, omega (arith, c.from.ensures, c.requires.0.within (c.args.b * 32 + c.args.a)))
