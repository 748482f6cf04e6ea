-- `clauses_targets::store_clause` meets its contract: the targets stand after the premises. Assumes nothing.
use Rattle.clauses_targets.proofs.Targeting.{clause-stored}
use Rattle.clauses_targets.proofs.store_clause.Goals as goal

pub returns : goal.returns
returns c =
    clause-stored c.args.premises (c.well_formed.1.1.1.1.0.1.1.0.1.0.1) c.requires.1 _ _ c.args.rest.now c.store.ensures c.store_targets.ensures
