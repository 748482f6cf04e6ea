-- `basilvault::put_going` meets its contract: nothing is refused. Assumes nothing.
use native.Mathlib.Omega.{arith}
use mathlib.Core.Path.{sym, ap, ◌∙◌}
use Rattle.print_spec.specs.Program.{widest}
use Rattle.print_spec.specs.Text.{recorded_text}
use Rattle.print_spec.proofs.Going.{going_told}
use Rattle.print_lines.proofs.Putting.{put_none, put_same}
use Rattle.basilvault.proofs.put_going.Goals as goal

pub returns-in-Ok : goal.returns-in-Ok
returns-in-Ok c =
    let e = rw c.widest.ensures at c.records_accepted-recorded.ensures in
    put_same (ap recorded_text (sym c.in-Ok.is ∙ going_told widest c.args.table.now c.args.map.now c.requires.0 e)) c.put_records.ensures

pub returns-in-Err : goal.returns-in-Err
returns-in-Err c =
    let e = rw c.widest.ensures at c.records_accepted-recorded.ensures in
    put_same (ap recorded_text (sym c.in-Err.is ∙ going_told widest c.args.table.now c.args.map.now c.requires.0 e)) (put_none c.args.at c.args.text.now (omega (arith, c.requires.1)))
