-- `uses::uses_within` meets its contract: refused as the check refuses the map, or counted under it. Assumes nothing.
use mathlib.Core.Path.{sym, subst, ◌∙◌}
use Rattle.std.specs.Prelude.{Result}
use Rattle.std.specs.Result.{IfOk}
use Rattle.refusals.specs.declared.Refusal.{Refusal}
use Rattle.refusals.proofs.Numbers.{passed_up}
use Rattle.check_spec.proofs.Answers.{accepted-number, refused_number}
use Rattle.uses_spec.specs.declared.Counted.{Counted}
use Rattle.uses_spec.specs.Demands.{Fits}
use Rattle.uses_spec.proofs.Promises.{class-small, uses-accepted, uses_refused, promised, counted_says}
use Rattle.uses.proofs.uses_within.Goals as goal

pub uses_under-requires : goal.uses_under-requires
uses_under-requires c = class-small _ _ _ (accepted-number _ _ _ (sym c.in_ok-check_within.ensures.answers))

pub returns-in_err-check_within : goal.returns-in_err-check_within
returns-in_err-check_within c =
    let e = passed_up c.from_residual.ensures in
    let the_facts = promised _ _ _ _ (e ∙ uses_refused _ _ _ _ (refused_number _ _ _ (sym c.in_err-check_within.ensures.answers))) (subst (λ (r : Result Counted Refusal). IfOk r Fits) (sym e) tt) in
    record { answers = the_facts.0; promises = the_facts.1; number = counted_says _ _ _ _ the_facts.0 }

pub returns : goal.returns
returns c =
    let e = accepted-number _ _ _ (sym c.in_ok-check_within.ensures.answers) in
    let the_facts = promised _ _ _ _ (c.uses_under.ensures.value ∙ uses-accepted _ _ _ _ e) c.uses_under.ensures.fits in
    record { answers = the_facts.0; promises = the_facts.1; number = counted_says _ _ _ _ the_facts.0 }
