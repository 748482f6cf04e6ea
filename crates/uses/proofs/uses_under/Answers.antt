-- `uses::uses_under` meets its contract: refused by 32 or 33, or counted. Assumes nothing.
use mathlib.Core.Path.{sym, ap, subst, ◌∙◌}
use Rattle.std.specs.Prelude.{Result, Ok}
use Rattle.std.specs.Result.{IfOk}
use Rattle.refusals.specs.declared.Refusal.{Refusal}
use Rattle.refusals.proofs.Numbers.{passed_up, was_ok, was_refused}
use Rattle.uses_spec.specs.declared.Counted.{Counted}
use Rattle.uses_spec.specs.Demands.{Fits}
use Rattle.uses_spec.proofs.Promises.{lines_few, answer-counted, answer_refused, tests-known}
use Rattle.uses.proofs.uses_under.Goals as goal

pub returns-in_err-test_lines : goal.returns-in_err-test_lines
returns-in_err-test_lines c =
    let e = passed_up c.from_residual.ensures in
    record { value = e ∙ answer_refused _ _ (was_refused tt (tests-known _ _) (sym c.in_err-test_lines.ensures)); fits = subst (λ (r : Result Counted Refusal). IfOk r Fits) (sym e) tt }

pub add_lines-requires : goal.add_lines-requires
add_lines-requires c = (lines_few _ _ (was_ok tt (sym c.in_ok-test_lines.ensures)).0, c.requires)

pub returns : goal.returns
returns c =
    let z = (was_ok tt (sym c.in_ok-test_lines.ensures)).0 in
    record { value = ap (λ (r : Counted). Ok r) c.add_lines.ensures.value ∙ answer-counted _ _ z; fits = c.add_lines.ensures.fits }
