-- `clauses_targets::with_premise` meets its contract. Assumes nothing.
use Rattle.clauses_targets.proofs.Targeting.{premise-none, premise-one}
use Rattle.clauses_targets.proofs.with_premise.Goals as goal

pub returns-then-p-q : goal.returns-then-p-q
returns-then-p-q c = premise-none _ _ _ (c.well_formed.0.1.1.0.1.0.1) c.requires c.if-p-q.true

pub returns : goal.returns
returns c = premise-one c.args.c _ _ _ c.if-p-q.false c.parted.ensures c.with_literal.ensures
