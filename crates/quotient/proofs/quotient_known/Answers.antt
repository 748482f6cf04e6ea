-- `quotient::quotient_known` meets its contract: refused by the map's tests, or by its length, or written. Assumes nothing.
use mathlib.Core.Path.{◌∙◌}
use Rattle.refusals.proofs.Numbers.{passed_up}
use Rattle.check_spec.proofs.Answers.{tests_refused, tests_passed}
use Rattle.quotient.proofs.Quotienting.{quotient_refused, quotient-written}
use Rattle.quotient.proofs.quotient_known.Goals as goal

pub returns-in_err-test_map : goal.returns-in_err-test_map
returns-in_err-test_map c L readable = quotient_refused L _ _ _ (passed_up c.from_residual.ensures) (tests_refused L _ _ readable c.in_err-test_map.ensures)

pub returns : goal.returns
returns c L readable = c.write_read.ensures ∙ quotient-written L _ _ _ (tests_passed L _ _ readable c.in_ok-test_map.ensures)
