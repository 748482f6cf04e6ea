-- `combine::combine_both` meets its contract: 37, 35, or what is written. Assumes nothing.
use mathlib.Core.Path.{sym, ◌∙◌}
use mathlib.Core.Bool.{true≢false}
use native.Mathlib.Omega.{arith}
use Rattle.combine.proofs.Answers.{symbols_differ, too_many_states, combines, combined_all, states-most}
use Rattle.combine.proofs.combine_both.Goals as goal

pub returns-then-not-same : goal.returns-then-not-same
returns-then-not-same c =
    symbols_differ c.args.limits c.args.how c.args.first.now c.args.second.now c.args.out.now c.requires c.part-symbols.ensures c.part.ensures (λ e. true≢false (sym (c.same.ensures.1 e) ∙ c.if-not-same.true))

pub state_count-requires : goal.state_count-requires
state_count-requires c =
    states-most c.args.limits c.args.how c.args.first.now c.args.second.now c.args.out.now c.requires c.part-symbols.ensures c.part.ensures c.part-own.ensures c.part-other.ensures

pub returns-then-states-state_count : goal.returns-then-states-state_count
returns-then-states-state_count c =
    too_many_states c.args.limits c.args.how c.args.first.now c.args.second.now c.args.out.now c.requires c.part-symbols.ensures c.part.ensures (c.same.ensures.0 c.if-not-same.false) c.part-own.ensures c.part-other.ensures c.state_count.ensures c.if-states-state_count.true

pub write_combined-requires : goal.write_combined-requires
write_combined-requires c =
    combines c.args.limits c.args.how c.args.first.now c.args.second.now c.args.out.now c.requires c.part-symbols.ensures c.part.ensures (c.same.ensures.0 c.if-not-same.false) c.part-own.ensures c.part-other.ensures c.state_count.ensures (omega (arith, c.if-states-state_count.false))

pub returns : goal.returns
returns c =
    c.write_combined.ensures ∙ combined_all c.args.limits c.args.how c.args.first.now c.args.second.now c.args.out.now c.requires c.part-symbols.ensures c.part.ensures (c.same.ensures.0 c.if-not-same.false) c.part-own.ensures c.part-other.ensures c.state_count.ensures (omega (arith, c.if-states-state_count.false))
