-- `combine_keys::push::push` meets its contract: the key has room, or the count says that it has none. Assumes nothing.
use native.Mathlib.Omega.{arith}
use Rattle.combine_keys.proofs.Adding.{adds_one, adds_over}
use Rattle.combine_keys.proofs.push.push.Goals as goal

pub returns-then-count-keys : goal.returns-then-count-keys
returns-then-count-keys c =
    adds_one c.args.key c.if-count-keys.true

pub returns : goal.returns
returns c =
    adds_over c.args.key (omega (arith, c.if-count-keys.false))
