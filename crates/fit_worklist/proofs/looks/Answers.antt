-- `fit_worklist::looks` meets its contract. The invariant: the rows hold tops and links only. Assumes nothing.
use borrow.Author.Rules.{rules}
use Rattle.fit_rounds.proofs.Passing.{few-pairs}
use Rattle.fit_worklist.proofs.looks.Goals as goal

pub overflow_mul-pairs : goal.overflow_mul-pairs
overflow_mul-pairs c =
    let h = few-pairs c.args.input.reads.few c.args.input.reads.pushes_go.few in search rules

pub passes-init : goal.passes-init
passes-init c = λ s t d d' x. x

pub any_marked-requires : goal.any_marked-requires
any_marked-requires c =
    few-pairs c.args.input.reads.few c.args.input.reads.pushes_go.few

pub returns-then-not-any_marked : goal.returns-then-not-any_marked
returns-then-not-any_marked c = c.passes.invariant

pub pass-requires : goal.pass-requires
pass-requires c =
    (c.firsts-pushing.ensures, c.firsts-popping.ensures)

pub passes-preserved : goal.passes-preserved
passes-preserved c = λ s t d d' x. c.pass.ensures s t d d' (c.passes.invariant s t d d' x)

pub returns : goal.returns
returns c = c.passes.invariant
