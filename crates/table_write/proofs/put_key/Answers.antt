-- `table_write::put_key` meets its contract: the last of the four bytes are copied. Assumes nothing.
use mathlib.Core.Path.{ap, ◌∙◌}
use mathlib.Core.List.{List}
use Prim.Native.Nat.{ℕ, ◌-◌}
use lib.ListN.{take, drop}
use Rattle.lists.specs.Lists.{over}
use Rattle.table_write.proofs.Writing.{last-part, be_bytes}
use Rattle.table_write.proofs.put_key.Goals as goal

pub returns : goal.returns
returns c =
    c.put_bytes.ensures
    ∙ ap (λ (bs : List ℕ). over (take (4 - (4 - c.args.width)) (drop (4 - c.args.width) bs)) c.args.out.now) (be_bytes c.ranges.key.fits c.to_be_bytes-bytes.ensures)
    ∙ ap (λ x. over x c.args.out.now) (last-part c.args.width c.args.key c.requires.0)
