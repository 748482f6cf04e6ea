-- `table_find::two_at` meets its contract. Assumes nothing.
use mathlib.Core.Path.{refl}
use native.Mathlib.Omega.{arith}
use Rattle.table_find.proofs.Keys.{first_byte, next_byte}
use Rattle.table_find.proofs.two_at.Goals as goal

pub returns : goal.returns
returns c =
    next_byte c.args.section.now c.args.at 1 (first_byte c.args.section.now c.args.at (omega (arith, c.requires)) c.with_byte.ensures) (c.requires) refl c.with_byte-2.ensures
