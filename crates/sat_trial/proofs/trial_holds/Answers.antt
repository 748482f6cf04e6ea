-- `sat_trial::trial_holds` meets its contract. Assumes nothing.
use Rattle.sat_literal.proofs.Walking.{clauses_on, whole_on, over_on, formed_on, clauses_end}
use Rattle.sat_trial.proofs.Trying.{satisfied_on, satisfied_none}
use Rattle.sat_trial.proofs.trial_holds.Goals as goal

pub clause_holds-requires : goal.clause_holds-requires
clause_holds-requires c = over_on _ _ _ c.in-Some.ensures.steps c.clauses.invariant.formed

pub returns-then-not-clause_holds : goal.returns-then-not-clause_holds
returns-then-not-clause_holds c =
    rw (c.clauses.invariant.left, clauses_on _ _ _ c.in-Some.ensures.steps, satisfied_on, ← c.clause_holds.ensures, c.if-not-clause_holds.true)

pub clauses-preserved : goal.clauses-preserved
clauses-preserved c =
    let i = c.clauses.invariant in
    let e = c.in-Some.ensures.steps in
    record {
      all_there = whole_on _ _ _ e i.all_there;
      formed = formed_on _ _ _ e i.formed;
      left = rw (i.left, clauses_on _ _ _ e, satisfied_on, ← c.clause_holds.ensures, c.if-not-clause_holds.false);
    }

pub returns : goal.returns
returns c = rw (c.clauses.invariant.left, clauses_end _ c.in-None.ensures.steps.0) (satisfied_none _)
