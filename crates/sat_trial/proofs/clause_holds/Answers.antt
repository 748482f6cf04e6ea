-- `sat_trial::clause_holds` meets its contract: each literal's variable has a value. Assumes nothing.
use Rattle.std.proofs.Common.{rules}
use Rattle.std.proofs.lemmas.Iterator.Adapters.{serves_from_places}
use Rattle.std.proofs.lemmas.Iterator.{YieldsList-from_slice}
use Rattle.sat_literal.proofs.Walking.{over_at}
use Rattle.sat_trial.proofs.clause_holds.Goals as goal

pub any-requires-clause-callable : goal.any-requires-clause-callable
any-requires-clause-callable c =
    serves_from_places (YieldsList-from_slice c.args.literals.now cc) (λ x q r. search rules) (λ x k h e. search (rules, over_at c.requires x.now k h e))
