-- `reduce::state_count` meets its contract. Assumes nothing.
use mathlib.Core.Path.{sym, ◌∙◌}
use native.Mathlib.Omega.{arith}
use Rattle.refusals.proofs.Numbers.{some_number}
use Rattle.table_view.proofs.Handed.{read_as, read_refused}
use Rattle.reduce.proofs.Stages.{states-count, states-few}
use Rattle.reduce.proofs.States.{readable-states, unread_states}
use Rattle.reduce.proofs.state_count.Goals as goal

pub returns-in-Ok : goal.returns-in-Ok
returns-in-Ok c =
    let h = read_as _ _ _ (sym c.in-Ok.ensures.answers) in
    let e = states-count h c.part-states.ensures in
    record { few = omega (arith, e, states-few _ _ h.readable); states = e ∙ readable-states _ _ h.readable }

pub returns-in-Err : goal.returns-in-Err
returns-in-Err c =
    let r = read_refused _ _ _ (sym c.in-Err.ensures.answers) in
    record { few = omega arith; states = unread_states _ _ r (some_number _) }
