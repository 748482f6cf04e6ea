-- `sat_counters::count_literals` meets its contract. Assumes nothing.
use Rattle.std.proofs.Common.{rules, arith, ◌≡◌}
use Rattle.sat_literal.specs.Walk.{clauses_rest}
use Rattle.sat_literal.proofs.Walking.{over_on}
use Rattle.sat_counters.proofs.Counting as laws
use Rattle.sat_counters.proofs.count_literals.Goals as goal

pub clauses-init : goal.clauses-init
clauses-init c =
    let e : clauses_rest c.into_iter-literals-iterator.result ≡ c.args.list.now = search rules in
    rw e (laws.tallying _ c.requires.list_value.0 c.requires.list_value.1 c.requires.list_len_bound.0)

pub weigh_clause-requires : goal.weigh_clause-requires
weigh_clause-requires c =
    let i = c.clauses.invariant in
    let e = c.in-Some.ensures.steps in
    (over_on _ _ _ e i.formed, c.requires.list_value.2, laws.clause-short i _ _ e)

pub bounds-counters-count : goal.bounds-counters-count
bounds-counters-count c =
    omega (arith, laws.count-inside c.clauses.invariant _ _ c.in-Some.ensures.steps, c.requires.list_len_bound.1, c.clauses.auto.counters)

pub clauses-preserved : goal.clauses-preserved
clauses-preserved c =
    let i = c.clauses.invariant in
    let e = c.in-Some.ensures.steps in
    laws.count_literals_on i _ _ e (omega (arith, laws.count-inside i _ _ e, c.requires.list_len_bound.1, c.clauses.auto.counters)) c.weigh_clause.ensures

pub returns : goal.returns
returns c =
    laws.tallied c.clauses.invariant c.in-None.ensures.steps.0 (omega (arith, c.requires.list_len_bound.1, c.clauses.auto.counters))
