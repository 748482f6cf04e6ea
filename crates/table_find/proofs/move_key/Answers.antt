-- `table_find::move_key` meets its contract. Assumes nothing.
use mathlib.Core.Path.{ap, ◌∙◌}
use Prim.Native.Nat.{◌+◌, ◌*◌}
use Rattle.table_find.proofs.Keys.{two_keyed}
use Rattle.table_find.proofs.move_key.Goals as goal

pub returns : goal.returns
returns c =
    two_keyed c.ranges.q.fits c.ranges.a.fits (c.with_byte-2.ensures ∙ ap (λ n. n * 256 + c.args.a) c.with_byte.ensures)
