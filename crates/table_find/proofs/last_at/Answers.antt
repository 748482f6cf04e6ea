-- `table_find::last_at` meets its contract: the records so far start with the key. Assumes nothing.
use Rattle.table_find.proofs.Spanning.{pass_on, pass_end, passed-all}
use Rattle.table_find.proofs.last_at.Goals as goal

pub returns-then-key_at-wanted-clause-last : goal.returns-then-key_at-wanted-clause-last
returns-then-key_at-wanted-clause-last c = pass_end c.records.invariant (λ i. (c.type_inv.section i).fits) c.records-test.true c.key_at.ensures c.if-key_at-wanted.true

pub records-preserved : goal.records-preserved
records-preserved c = pass_on c.records.invariant (λ i. (c.type_inv.section i).fits) c.records-test.true c.key_at.ensures c.if-key_at-wanted.false

pub returns-clause-last : goal.returns-clause-last
returns-clause-last c = passed-all c.records.invariant c.records-test.false
