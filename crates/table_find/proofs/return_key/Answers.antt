-- `table_find::return_key` meets its contract. Assumes nothing.
use mathlib.Core.Path.{ap, ◌∙◌}
use Prim.Native.Nat.{◌+◌, ◌*◌}
use Rattle.table_find.proofs.Keys.{three_keyed}
use Rattle.table_find.proofs.return_key.Goals as goal

pub returns : goal.returns
returns c =
    three_keyed c.ranges.q.fits c.ranges.a.fits c.ranges.s.fits (c.with_byte-3.ensures ∙ ap (λ n. n * 256 + c.args.s) (c.with_byte-2.ensures ∙ ap (λ n. n * 256 + c.args.a) c.with_byte.ensures))
