-- `print_lines::digits::put_hex` meets its contract. The loop's invariant: the first bytes stand as text. Assumes nothing.
use Rattle.print_lines.proofs.Text.{Hexed}
use Rattle.print_lines.proofs.digits.put_hex.Given as goal

abbrev pub invariant-bytes : goal.invariant-bytes
invariant-bytes l = Hexed l.bytes l.initial.text l.text l.i
