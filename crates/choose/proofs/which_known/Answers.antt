-- `choose::which_known` meets its contract: the map's tests of both, and their class counts where both pass. Assumes nothing.
use mathlib.Core.Path.{refl, ap, ◌∙◌}
use Rattle.std.specs.Prelude.{Option, Some}
use Rattle.choose_spec.specs.declared.Which.{Which}
use Rattle.check_spec.proofs.Answers.{tests_refused, tests_passed, check_refused, check_accepted}
use Rattle.choose_spec.proofs.Choosing.{pick_neither, pick_second, pick_first, pick_both}
use Rattle.choose.proofs.which_known.Goals as goal

pub returns-in-Err-two : goal.returns-in-Err-two
returns-in-Err-two c L r = pick_neither L _ _ _ (check_refused L _ _ (tests_refused L _ _ r c.in-Err.ensures)) (check_refused L _ _ (tests_refused L _ _ r c.in-Err-two.ensures))

pub returns-in-Ok-two : goal.returns-in-Ok-two
returns-in-Ok-two c L r = pick_second L _ _ _ (check_refused L _ _ (tests_refused L _ _ r c.in-Err.ensures)) (check_accepted L _ _ (tests_passed L _ _ r c.in-Ok-two.ensures) refl)

pub returns-in-Err-two-2 : goal.returns-in-Err-two-2
returns-in-Err-two-2 c L r = pick_first L _ _ _ (check_accepted L _ _ (tests_passed L _ _ r c.in-Ok.ensures) refl) (check_refused L _ _ (tests_refused L _ _ r c.in-Err-two-2.ensures))

pub returns-in-Ok-two-2 : goal.returns-in-Ok-two-2
returns-in-Ok-two-2 c L r =
    ap {B = Option Which} (λ w. Some w) c.fewer.ensures
    ∙ pick_both L _ _ _ (check_accepted L _ _ (tests_passed L _ _ r c.in-Ok.ensures) refl) (check_accepted L _ _ (tests_passed L _ _ r c.in-Ok-two-2.ensures) refl)
