-- `sat_trial::not_false` meets its contract. Assumes nothing.
use Rattle.std.proofs.Common.{rules, ◌≡◌, ◌∙◌, ◌==◌, count_by, not}
use Rattle.sat_trial.proofs.Trying.{count_not_false}
use Rattle.sat_trial.proofs.not_false.Goals as goal

pub returns : goal.returns
returns c =
    let e : c.count.result ≡ count_by (λ y. not (y == 0)) c.args.values.now = search rules in
    e ∙ count_not_false _
