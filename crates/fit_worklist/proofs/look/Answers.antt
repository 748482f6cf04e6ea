-- `fit_worklist::look` meets its contract. Assumes nothing.
use mathlib.Core.Path.{sym, ◌∙◌}
use native.Mathlib.Omega.{arith}
use borrow.Author.Rules.{rules}
use Rattle.fit_rounds.proofs.Passing.{few-pairs}
use Rattle.fit_links.proofs.Quickly.{look_told}
use Rattle.fit_worklist.proofs.look.Goals as goal

pub pair-u-requires : goal.pair-u-requires
pair-u-requires c = (omega (arith, c.requires.2, c.args.input.reads.few), c.requires.3, c.args.input.reads.pushes_go.few)

pub push_all-requires : goal.push_all-requires
push_all-requires c = (c.requires.0, c.args.input.reads.calls-named, c.args.input.reads.pushes_go, omega (arith, c.requires.2, c.args.input.reads.few), c.requires.3)

pub pop_all-requires : goal.pop_all-requires
pop_all-requires c = (c.requires.1, c.args.input.reads.returns-named, c.args.input.reads.pops_go, omega (arith, c.requires.2, c.args.input.reads.few), c.requires.3, c.args.input.reads.few)

pub overflow_mul-k : goal.overflow_mul-k
overflow_mul-k c =
    let h = few-pairs c.args.input.reads.few c.args.input.reads.pushes_go.few in search rules

pub spread-requires : goal.spread-requires
spread-requires c =
    (c.pair-u.ensures.1, few-pairs c.args.input.reads.few c.args.input.reads.pushes_go.few)

pub returns : goal.returns
returns c =
    look_told c.pair-u.ensures.0 (λ F h. sym c.if-not-any.false ∙ c.any.ensures F h) c.requires.2 c.requires.3 c.push_all.ensures c.pop_all.ensures c.spread.ensures
