-- `print_lines::digits::digit` meets its contract. Assumes nothing.
use Rattle.print_lines.proofs.Text.{low_digit, high_digit}
use Rattle.print_lines.proofs.digits.digit.Goals as goal

pub returns-then-d-lt10 : goal.returns-then-d-lt10
returns-then-d-lt10 c = low_digit c.args.d c.if-d-lt10.true

pub returns : goal.returns
returns c = high_digit c.args.d c.if-d-lt10.false
