-- `fit_compare::settle::rest` meets its contract. The invariant: so many rounds from the words that are held give the words to come out. Assumes nothing.
use native.Mathlib.Omega.{arith}
use borrow.Author.Rules.{rules}
use Rattle.fit_rounds.proofs.Passing.{few-pairs}
use Rattle.fit_compare.proofs.Settling.{resting, rest_as, rest_on, rested, spent, few-rounds, round_turns}
use mathlib.Core.Path.{sym, ◌∙◌}
use Rattle.fit_compare.proofs.settle.rest.Goals as goal

pub overflow_mul-pairs : goal.overflow_mul-pairs
overflow_mul-pairs c =
    let h = few-pairs c.requires.6 c.requires.3.few in search rules

pub overflow_add-most : goal.overflow_add-most
overflow_add-most c =
    let h = few-pairs c.requires.6 c.requires.3.few in search rules

pub overflow_mul-most : goal.overflow_mul-most
overflow_mul-most c =
    let h = few-pairs c.requires.6 c.requires.3.few in let r = few-rounds h in search rules

pub overflow_add-most-2 : goal.overflow_add-most-2
overflow_add-most-2 c =
    let h = few-pairs c.requires.6 c.requires.3.few in let r = few-rounds h in search rules

pub rounds-init : goal.rounds-init
rounds-init c = rest_as (omega arith) (resting _ _ _ _ _ _ _ _ _)

pub by_moves-requires : goal.by_moves-requires
by_moves-requires c =
    (c.requires.0, c.requires.3)

pub by_moves-requires-in-rounds : goal.by_moves-requires-in-rounds
by_moves-requires-in-rounds c =
    (c.requires.1, c.requires.4)

pub by_returns-requires : goal.by_returns-requires
by_returns-requires c =
    (c.requires.2, c.requires.5)

pub returns-then-same_rows : goal.returns-then-same_rows
returns-then-same_rows c =
    rested c.rounds.invariant (omega (arith, c.rounds-test.true)) (λ s t d. round_turns d (c.by_moves.ensures t.internals d.moves-are c.args.k d.internals-named) (c.by_moves-in-rounds.ensures t.calls d.pushes_are c.args.k d.calls-named) (c.by_returns.ensures t.returns d.pops_are c.args.k d.returns-named)) (sym c.same_rows.ensures ∙ c.if-same_rows.true)

pub rounds-preserved : goal.rounds-preserved
rounds-preserved c =
    rest_as (omega arith) (rest_on c.rounds.invariant (omega (arith, c.rounds-test.true)) (λ s t d. round_turns d (c.by_moves.ensures t.internals d.moves-are c.args.k d.internals-named) (c.by_moves-in-rounds.ensures t.calls d.pushes_are c.args.k d.calls-named) (c.by_returns.ensures t.returns d.pops_are c.args.k d.returns-named)) (sym c.same_rows.ensures ∙ c.if-same_rows.false))

pub returns : goal.returns
returns c = spent c.rounds.invariant (omega (arith, c.rounds-test.false))
