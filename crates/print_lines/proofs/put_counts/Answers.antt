-- `print_lines::put_counts` meets its contract: one piece after the other. Assumes nothing.
use native.Mathlib.Omega.{arith}
use Rattle.print_spec.specs.Lines.{counts_text}
use Rattle.print_lines.proofs.Putting.{put_on}
use Rattle.print_lines.proofs.put_counts.Goals as goal

pub put_spent-at-requires : goal.put_spent-at-requires
put_spent-at-requires c =
    omega (arith, c.requires, c.put_number-at.ensures.few, c.put_number-at.ensures.put.long, c.put_number-at-2.ensures.few, c.put_number-at-2.ensures.put.long, c.put_number-at-3.ensures.few, c.put_number-at-3.ensures.put.long, c.put_number-at-4.ensures.few, c.put_number-at-4.ensures.put.long, c.put_number-at-5.ensures.few, c.put_number-at-5.ensures.put.long, c.put_number-at-6.ensures.few, c.put_number-at-6.ensures.put.long)

pub put-requires : goal.put-requires
put-requires c =
    omega (arith, c.requires, c.put_number-at.ensures.few, c.put_number-at.ensures.put.long, c.put_number-at-2.ensures.few, c.put_number-at-2.ensures.put.long, c.put_number-at-3.ensures.few, c.put_number-at-3.ensures.put.long, c.put_number-at-4.ensures.few, c.put_number-at-4.ensures.put.long, c.put_number-at-5.ensures.few, c.put_number-at-5.ensures.put.long, c.put_number-at-6.ensures.few, c.put_number-at-6.ensures.put.long, c.put_spent-at.ensures.few, c.put_spent-at.ensures.put.long)

pub shape_of-text : goal.shape_of-text
shape_of-text c =
    let p = put_on (put_on (put_on (put_on (put_on (put_on (put_on c.put_number-at.ensures.put c.put_number-at-2.ensures.put) c.put_number-at-3.ensures.put) c.put_number-at-4.ensures.put) c.put_number-at-5.ensures.put) c.put_number-at-6.ensures.put) c.put_spent-at.ensures.put) c.put.ensures in p.long

pub returns : goal.returns
unfolding counts_text
returns c =
    record { put = put_on (put_on (put_on (put_on (put_on (put_on (put_on c.put_number-at.ensures.put c.put_number-at-2.ensures.put) c.put_number-at-3.ensures.put) c.put_number-at-4.ensures.put) c.put_number-at-5.ensures.put) c.put_number-at-6.ensures.put) c.put_spent-at.ensures.put) c.put.ensures; few = omega (arith, c.put_number-at.ensures.few, c.put_number-at.ensures.put.long, c.put_number-at-2.ensures.few, c.put_number-at-2.ensures.put.long, c.put_number-at-3.ensures.few, c.put_number-at-3.ensures.put.long, c.put_number-at-4.ensures.few, c.put_number-at-4.ensures.put.long, c.put_number-at-5.ensures.few, c.put_number-at-5.ensures.put.long, c.put_number-at-6.ensures.few, c.put_number-at-6.ensures.put.long, c.put_spent-at.ensures.few, c.put.ensures.place) }
