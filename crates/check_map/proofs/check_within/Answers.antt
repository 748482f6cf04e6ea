-- `check_map::check_within` meets its contract: refused by reading, by the map's tests, or accepted. Assumes nothing.
use mathlib.Core.Path.{◌∙◌, ap}
use mathlib.Core.List.{List}
use Prim.Native.Nat.{ℕ}
use Rattle.std.specs.Borrow.{Bor}
use Rattle.lists.specs.Lists.{first_failed}
use Rattle.refusals.specs.Refusals.{tested}
use Rattle.refusals.proofs.Numbers.{passed_up}
use Rattle.table_spec.specs.File.{table_of}
use Rattle.check_spec.specs.Check.{map_tests}
use Rattle.check_spec.proofs.Answers.{tests_refused, tests_passed, check_refused, check_accepted, checked}
use Rattle.check_map.proofs.Checking.{unread}
use Rattle.check_map.proofs.check_within.Goals as goal

pub returns-in_err-examined : goal.returns-in_err-examined
returns-in_err-examined c =
    let the_facts = checked _ _ _ (passed_up c.from_residual.ensures ∙ check_refused _ _ _ (unread _ _ _ _ c.in_err-examined.ensures.err)) in
    record { answers = the_facts.0; number = the_facts.1.0; exact = the_facts.1.1 }

pub returns-in_err-test_map : goal.returns-in_err-test_map
returns-in_err-test_map c =
    let ok = c.in_ok-examined.ensures.ok in
    let told = c.in_err-test_map.ensures ∙ ap (λ (t : Bor (List ℕ)). tested (first_failed (map_tests (table_of t.now) c.args.map.now))) ok.0 in
    let the_facts = checked _ _ _ (passed_up c.from_residual-in_err-test_map.ensures ∙ check_refused _ _ _ (tests_refused _ _ _ ok.1 told)) in
    record { answers = the_facts.0; number = the_facts.1.0; exact = the_facts.1.1 }

pub returns : goal.returns
returns c =
    let ok = c.in_ok-examined.ensures.ok in
    let told = c.in_ok-test_map.ensures ∙ ap (λ (t : Bor (List ℕ)). tested (first_failed (map_tests (table_of t.now) c.args.map.now))) ok.0 in
    let the_facts = checked _ _ _ (check_accepted _ _ _ (tests_passed _ _ _ ok.1 told) c.class_count.ensures) in
    record { answers = the_facts.0; number = the_facts.1.0; exact = the_facts.1.1 }
