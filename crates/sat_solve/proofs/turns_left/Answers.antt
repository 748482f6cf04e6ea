-- `sat_solve::turns_left` meets its contract: what is left of a list at rest is at rest under the same values, and has the outcome of the list.
-- Assumes nothing.
use Rattle.sat_decide.proofs.Ends as laws
use borrow.Author.Rules.{rules}
use Rattle.sat_solve.proofs.turns_left.Goals as goal

pub simplify_all-requires : goal.simplify_all-requires
simplify_all-requires c =
    laws.rest_lightens c.args.list.now c.args.n c.requires.rested c.requires.list_value

pub slice_bounds-turns_any-end : goal.slice_bounds-turns_any-end
slice_bounds-turns_any-end c = laws.prefix_long _ c.in-Some.ensures.0 (search rules)

pub turns_any-requires-in-Some : goal.turns_any-requires-in-Some
turns_any-requires-in-Some c =
    let written = c.in-Some.ensures.1 in
    record { list_value = laws.rest-whole c.args.list.now c.args.n c.requires.rested written; rested = laws.rest-rested c.args.list.now c.args.n c.requires.rested written; pair_table = c.requires.pair_table }

pub returns-in-Some : goal.returns-in-Some
returns-in-Some c =
    let written = c.in-Some.ensures.1 in
    laws.rest-ends c.args.list.now c.args.n c.requires.rested written c.args.budget c.turns_any-in-Some.result _ _ c.turns_any-in-Some.ensures
