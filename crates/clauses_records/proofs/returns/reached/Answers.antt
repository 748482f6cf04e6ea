-- `clauses_records::returns::reached` meets its contract: no record passed has the stack state. Assumes nothing.
use borrow.Author.Rules.{rules}
use Rattle.clauses_records.proofs.Walking.{reaching, reach_inside, reach_on, reach_there, reach_end}
use Rattle.clauses_records.proofs.returns.reached.Goals as goal

pub records-init : goal.records-init
records-init c = reaching c.requires

pub overflow_mul-i : goal.overflow_mul-i
overflow_mul-i c = let h = reach_inside c.records.invariant c.records-test.true in search rules

pub overflow_add-i : goal.overflow_add-i
overflow_add-i c = let h = reach_inside c.records.invariant c.records-test.true in search rules

pub bounds-block-i : goal.bounds-block-i
bounds-block-i c = reach_inside c.records.invariant c.records-test.true

pub returns-then-block-i : goal.returns-then-block-i
returns-then-block-i c = reach_there c.records.invariant c.records-test.true c.if-block-i.true

pub records-preserved : goal.records-preserved
records-preserved c = reach_on c.records.invariant c.records-test.true c.if-block-i.false

pub returns : goal.returns
returns c = reach_end c.records.invariant c.records-test.false
