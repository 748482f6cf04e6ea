-- `cases::lengths_from` meets its contract: the numbers from here on are still to be stored. Assumes nothing.
use mathlib.Core.Path.{◌∙◌}
use native.Mathlib.Omega.{arith}
use Rattle.lists.proofs.Copying as laws
use Rattle.cases.proofs.Numbers.{longs_long, long_of}
use Rattle.cases.proofs.lengths_from.Goals as goal

pub lengths-init : goal.lengths-init
lengths-init c = laws.writing (omega (arith, longs_long c.args.bytes.now 16))

pub lengths-preserved : goal.lengths-preserved
lengths-preserved c =
    let b = c.args.bytes.now in
    let h = c.lengths-test.true in
    rw (c.long_at.ensures ∙ long_of b 16 c.lengths.i h) (laws.write_on c.lengths.invariant (omega (arith, longs_long b 16, h)))
