-- `fit_compare::choice::no_choice` meets its contract: the four tests in their order. Assumes nothing.
use mathlib.Core.Path.{refl, sym, ◌∙◌}
use native.Mathlib.Omega.{arith}
use Rattle.fit_compare.proofs.Reading.{one-initial, other_initials, internals-one, calls-one, returns_one, internals-ascend, calls-ascend, returns-ascend, many_initials, internals_choice, calls_choice, returns_choice}
use Rattle.fit_compare.proofs.choice.no_choice.Goals as goal

pub returns-then-initials-ne1 : goal.returns-then-initials-ne1
returns-then-initials-ne1 c = many_initials _ (other_initials c.requires c.part.ensures (λ e. c.if-initials-ne1.true (c.initials.ensures ∙ e)))

pub one_target-requires : goal.one_target-requires
one_target-requires c = (omega arith, (internals-ascend c.requires refl c.part-2.ensures).in_order)

pub returns-then-not-one_target : goal.returns-then-not-one_target
returns-then-not-one_target c =
    internals_choice _ (one-initial c.requires c.part.ensures (sym c.initials.ensures ∙ c.if-initials-ne1.false)) (internals-one c.requires c.part-2.ensures c.one_target.ensures ∙ c.if-not-one_target.true)

pub one_target-requires-2 : goal.one_target-requires-2
one_target-requires-2 c = (omega arith, (calls-ascend c.requires refl c.part-3.ensures).in_order)

pub returns-then-not-one_target-2 : goal.returns-then-not-one_target-2
returns-then-not-one_target-2 c =
    calls_choice _ (one-initial c.requires c.part.ensures (sym c.initials.ensures ∙ c.if-initials-ne1.false)) (internals-one c.requires c.part-2.ensures c.one_target.ensures ∙ c.if-not-one_target.false) (calls-one c.requires c.part-3.ensures c.one_target-2.ensures ∙ c.if-not-one_target-2.true)

pub one_target-requires-3 : goal.one_target-requires-3
one_target-requires-3 c = (omega arith, (returns-ascend c.requires refl c.part-4.ensures).in_order)

pub returns : goal.returns
returns c =
    returns_choice _ (one-initial c.requires c.part.ensures (sym c.initials.ensures ∙ c.if-initials-ne1.false)) (internals-one c.requires c.part-2.ensures c.one_target.ensures ∙ c.if-not-one_target.false) (calls-one c.requires c.part-3.ensures c.one_target-2.ensures ∙ c.if-not-one_target-2.false) (returns_one c.requires c.part-4.ensures c.one_target-3.ensures)
