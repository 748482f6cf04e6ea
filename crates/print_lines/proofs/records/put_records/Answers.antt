-- `print_lines::records::put_records` meets its contract: one piece after the other. Assumes nothing.
use Rattle.print_spec.specs.Lines.{records_text}
use Rattle.print_lines.proofs.Putting.{put_on}
use Rattle.print_lines.proofs.records.put_records.Goals as goal

pub returns : goal.returns
unfolding records_text
returns c =
    put_on (put_on (put_on (put_on c.put_number-to.ensures.put c.put_number-to-2.ensures.put) c.put_number-to-3.ensures.put) c.put_number-to-4.ensures.put) c.put.ensures
