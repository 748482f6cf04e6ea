-- `search::search_within` meets its contract: 39 comes first. Assumes nothing.
use mathlib.Core.Path.{sym, ◌∙◌}
use native.Mathlib.Omega.{arith}
use Rattle.pairs.proofs.Pairs.{few-pairs}
use Rattle.search_spec.proofs.Answers as answers
use Rattle.search.proofs.search_within.Goals as goal

pub returns-then-not-limits_fit : goal.returns-then-not-limits_fit
returns-then-not-limits_fit c =
    let the_facts = answers.unfit _ _ _ _ _ (sym c.limits_fit.ensures ∙ c.if-not-limits_fit.true) in
    record { answers = the_facts.0; number = the_facts.1.0; sound = the_facts.1.1 }

pub most_variables-requires : goal.most_variables-requires
most_variables-requires c = sym c.limits_fit.ensures ∙ c.if-not-limits_fit.false

pub search_at-requires : goal.search_at-requires
search_at-requires c = omega (arith, c.most_variables.ensures, few-pairs _ (sym c.limits_fit.ensures ∙ c.if-not-limits_fit.false))

pub returns : goal.returns
returns c =
    let fit = sym c.limits_fit.ensures ∙ c.if-not-limits_fit.false in
    let the_facts = answers.within _ _ _ _ _ fit c.most_variables.ensures c.search_at.ensures.answers c.search_at.ensures.sound in
    record { answers = the_facts.0; number = the_facts.1.0; sound = the_facts.1.1 }
