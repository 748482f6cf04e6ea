-- `print_lines::digits::put_number` meets its contract: the name, then the fewest digits. Assumes nothing.
use mathlib.Core.Path.{◌∙◌}
use native.Mathlib.Omega.{arith}
use Prim.Native.Nat.{◌≤◌}
use Rattle.print_lines.proofs.Decimals.{few_digits, decimal_text_lem}
use Rattle.print_lines.proofs.Putting.{put_on, put_same}
use Rattle.print_lines.proofs.digits.put_number.Goals as goal

pub returns : goal.returns
returns c =
    let few : c.decimal-k.result ≤ 20 = few_digits c.args.number c.decimal-k.result c.ranges.number.fits c.decimal-k.ensures.len in
    let p = c.put-from.ensures in
    let q = c.put.ensures in
    let d = c.decimal-k.ensures in
    record { put = put_on p (put_same (d.digits ∙ decimal_text_lem c.args.number c.decimal-k.result few d.len) q); few = omega (arith, p.place, q.place, few, d.in_bounds) }
