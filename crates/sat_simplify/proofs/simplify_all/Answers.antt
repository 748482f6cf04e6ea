-- `sat_simplify::simplify_all` meets its contract. Assumes nothing.
use Rattle.std.proofs.Common.{arith, refl}
use Rattle.sat_simplify.proofs.Simplifying as laws
use Rattle.sat_simplify.proofs.simplify_all.Goals as goal

pub clauses-init : goal.clauses-init
clauses-init c =
    laws.walked c.requires.all_there (omega (arith, c.put_set-at.ensures.0, c.if-out-values.false, c.put_set-at.auto.out)) refl c.put_set-at.ensures.1

pub put_open-requires-clause-stands : goal.put_open-requires-clause-stands
put_open-requires-clause-stands c = (laws.stands_here c.clauses.invariant c.clauses-test.true, c.requires.formed)

pub clauses-preserved : goal.clauses-preserved
clauses-preserved c =
    let put = c.in_ok-at.ensures in
    rw c.from.ensures (laws.walk_on c.clauses.invariant c.clauses-test.true put.0 put.1)

pub returns : goal.returns
returns c = (c.clauses.invariant.so_far.room, laws.walk-all c.clauses.invariant c.clauses-test.false)
