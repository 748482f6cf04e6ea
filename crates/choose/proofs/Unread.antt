-- The choice of a table that is not readable, as it is examined. Assumes nothing.
use mathlib.Core.Path.{◌≡◌, sym, ◌∙◌}
use mathlib.Core.List.{List}
use Prim.Native.Nat.{ℕ}
use Rattle.limits.specs.declared.Limits.{Limits}
use Rattle.refusals.specs.declared.Refusal.{Refusal}
use Rattle.refusals.proofs.Numbers.{some_number}
use Rattle.std.specs.Prelude.{Err}
use Rattle.refusals.specs.Refusals.{number_of}
use Rattle.table_spec.specs.Reading.{read_number}
use Rattle.check_spec.proofs.Answers.{check_refused}
use Rattle.check_map.proofs.Checking.{unread}
use Rattle.choose_spec.specs.Choose.{choice_of}
use Rattle.choose_spec.proofs.Choosing.{pick_neither, unread_number, decide_none}

module _ (L : Limits) (b m n : List ℕ) where
  pub decide_unread : (r : Refusal) → read_number L b ≡ number_of r → Err r ≡ choice_of L b m n
  decide_unread r k =
      decide_none L b m n (pick_neither L b m n (check_refused L b m (unread L b m r k)) (check_refused L b n (unread L b n r k))) (unread_number L b m n (λ z. some_number r (sym k ∙ z)) ∙ k)
