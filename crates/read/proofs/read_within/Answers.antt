-- `read::read_within` meets its contract: 39 comes first. Assumes nothing.
use mathlib.Core.Path.{sym, ◌∙◌}
use Rattle.table_spec.proofs.Passed.{read_promised}
use Rattle.read.proofs.Numbers.{limits_refused}
use Rattle.read.proofs.read_within.Goals as goal

pub returns-then-not-limits_fit : goal.returns-then-not-limits_fit
returns-then-not-limits_fit c =
    let the_facts = read_promised _ _ (limits_refused _ _ (sym c.limits_fit.ensures ∙ c.if-not-limits_fit.true)) in
    record { answers = the_facts.0; number = the_facts.1 }

pub read_fit-requires : goal.read_fit-requires
read_fit-requires c = sym c.limits_fit.ensures ∙ c.if-not-limits_fit.false

pub returns : goal.returns
returns c =
    let the_facts = read_promised _ _ c.read_fit.ensures in
    record { answers = the_facts.0; number = the_facts.1 }
