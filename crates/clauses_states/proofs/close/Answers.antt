-- `clauses_states::close` meets its contract. Assumes nothing.
use native.Mathlib.Omega.{arith}
use Rattle.clauses_states.proofs.Pairwise.{closed}
use Rattle.clauses_states.proofs.close.Goals as goal

pub put-requires-2 : goal.put-requires-2
put-requires-2 c =
    omega (arith, c.three-second.ensures.count)

pub put-requires-3 : goal.put-requires-3
put-requires-3 c =
    omega (arith, c.three-third.ensures.count)

pub returns : goal.returns
returns c =
    closed _ _ _ _ c.parted-pq.ensures c.parted-ps.ensures c.parted-qs.ensures c.joined.ensures c.joined-2.ensures c.joined-3.ensures c.three-first.ensures c.three-second.ensures c.three-third.ensures c.put.ensures c.put-2.ensures c.put-3.ensures
