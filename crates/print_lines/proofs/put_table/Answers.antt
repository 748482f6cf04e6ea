-- `print_lines::put_table` meets its contract. Assumes nothing.
use native.Mathlib.Omega.{arith}
use Rattle.print_spec.specs.Lines.{table_text}
use Rattle.print_lines.proofs.Putting.{put_hexed, put_on}
use Rattle.print_lines.proofs.put_table.Goals as goal

pub returns : goal.returns
unfolding table_text
returns c =
    let p = c.put-from.ensures in
    let q = c.put.ensures in
    record { put = put_on (put_on p (put_hexed c.args.bytes.now _ c.put-from.result (omega (arith, c.requires, p.place, p.long)) c.put_hex.ensures)) q; few = omega (arith, p.place, q.place) }
