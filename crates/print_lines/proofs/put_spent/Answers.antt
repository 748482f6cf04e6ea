-- `print_lines::put_spent` meets its contract. Assumes nothing.
use mathlib.Core.Path.{sym, ap}
use native.Mathlib.Omega.{arith}
use Rattle.print_spec.specs.Lines.{spent_text}
use Rattle.print_lines.proofs.Putting.{put_none, put_same}
use Rattle.print_lines.proofs.put_spent.Goals as goal

pub returns-then-spent : goal.returns-then-spent
returns-then-spent c = let p = c.put.ensures in record { put = put_same (sym (ap spent_text c.if-spent.true)) p; few = omega (arith, p.place) }

pub returns : goal.returns
returns c = record { put = put_same (sym (ap spent_text c.if-spent.false)) (put_none c.args.at c.args.text.now (omega (arith, c.requires))); few = omega arith }
