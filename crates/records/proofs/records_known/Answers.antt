-- `records::records_known` meets its contract: refused by the map's tests, or told. Assumes nothing.
use mathlib.Core.Path.{sym, ◌∙◌}
use Rattle.refusals.proofs.Numbers.{passed_up, was_ok}
use Rattle.check_spec.proofs.Answers.{tests_refused, tests_passed}
use Rattle.records_spec.proofs.Answers.{records_refused}
use Rattle.records.proofs.Handed.{told_known}
use Rattle.records.proofs.records_known.Goals as goal

pub tell_read-requires : goal.tell_read-requires
tell_read-requires c = (was_ok tt (sym c.in_ok-test_map.ensures)).0

pub returns-in_err-test_map : goal.returns-in_err-test_map
returns-in_err-test_map c L readable = records_refused L _ _ _ (passed_up c.from_residual.ensures) (tests_refused L _ _ readable c.in_err-test_map.ensures)

pub returns : goal.returns
returns c L readable = c.tell_read.ensures ∙ told_known L _ _ _ (tests_passed L _ _ readable c.in_ok-test_map.ensures)
