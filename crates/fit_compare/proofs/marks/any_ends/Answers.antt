-- `fit_compare::marks::any_ends` meets its contract. The invariant: the answer is that of the pairs from u on. Assumes nothing.
use borrow.Author.Rules.{rules}
use Rattle.fit_compare.proofs.Marking.{ending, ending_on, ending_met, ending_done}
use Rattle.fit_rounds.proofs.Passing.{few-pairs}
use mathlib.Core.Path.{sym, ◌∙◌}
use native.Mathlib.Omega.{arith}
use Rattle.fit_compare.proofs.marks.any_ends.Goals as goal

pub overflow_mul-bottom : goal.overflow_mul-bottom
overflow_mul-bottom c =
    let h = few-pairs c.requires.0 c.requires.1 in search rules

pub pairs-init : goal.pairs-init
pairs-init c = ending _ _ _

pub ends_at-requires : goal.ends_at-requires
ends_at-requires c =
    let h = few-pairs c.requires.0 c.requires.1 in (omega (arith, h, c.pairs-test.true), omega (arith, h))

pub returns-then-ends_at : goal.returns-then-ends_at
returns-then-ends_at c =
    ending_met c.pairs.invariant c.pairs-test.true c.byte_at-p.ensures c.byte_at-q.ensures (λ F h. sym c.if-ends_at.true ∙ c.ends_at.ensures F h)

pub pairs-preserved : goal.pairs-preserved
pairs-preserved c =
    ending_on c.pairs.invariant c.pairs-test.true c.byte_at-p.ensures c.byte_at-q.ensures (λ F h. sym c.if-ends_at.false ∙ c.ends_at.ensures F h)

pub returns : goal.returns
returns c = ending_done c.pairs.invariant c.pairs-test.false
