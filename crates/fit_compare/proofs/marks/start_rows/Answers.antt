-- `fit_compare::marks::start_rows` meets its contract. The invariant: the pairs below u have their words, the others none. Assumes nothing.
use borrow.Author.Rules.{rules}
use Rattle.fit_compare.proofs.Marking.{equal_range, equal_range_on, started}
use Rattle.fit_rounds.proofs.Passing.{few-pairs}
use native.Mathlib.Omega.{arith}
use Rattle.fit_compare.proofs.marks.start_rows.Goals as goal

pub overflow_mul-bottom : goal.overflow_mul-bottom
overflow_mul-bottom c =
    let h = few-pairs c.requires.0 c.requires.1 in search rules

pub pairs-init : goal.pairs-init
pairs-init c = equal_range _ _ _

pub start_at-requires : goal.start_at-requires
start_at-requires c =
    let h = few-pairs c.requires.0 c.requires.1 in (omega (arith, h, c.pairs-test.true), omega (arith, h))

pub pairs-preserved : goal.pairs-preserved
pairs-preserved c =
    equal_range_on c.pairs.invariant c.pairs-test.true c.byte_at-p.ensures c.byte_at-q.ensures c.start_at.ensures

pub returns : goal.returns
returns c = started c.pairs.invariant c.pairs-test.false
