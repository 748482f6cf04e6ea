-- `clauses_states::look_apart` meets its contract. Assumes nothing.
use mathlib.Core.Path.{refl}
use native.Mathlib.Omega.{arith}
use lib.ListN.{length}
use Rattle.pairs.proofs.Pairs.{most-pairs}
use Rattle.clauses_states.proofs.Pairwise.{placed, alone, look_same, look_other}
use Rattle.clauses_states.proofs.look_apart.Goals as goal

pub bounds-states-from : goal.bounds-states-from
bounds-states-from c =
    (placed c.requires c.pair_of-pair.ensures c.from.ensures refl).low_below

pub bounds-states-from-2 : goal.bounds-states-from-2
bounds-states-from-2 c =
    (placed c.requires c.pair_of-pair.ensures c.from.ensures c.from-2.ensures).high_below

pub returns-then-low-high : goal.returns-then-low-high
returns-then-low-high c =
    look_same _ (placed c.requires c.pair_of-pair.ensures c.from.ensures c.from-2.ensures) _ c.if-low-high.true

pub overflow_mul-v : goal.overflow_mul-v
overflow_mul-v c =
    omega (arith, c.requires.2, most-pairs (length c.args.states.now) c.requires.0)

pub overflow_add-v : goal.overflow_add-v
overflow_add-v c =
    omega (arith, c.requires.2, most-pairs (length c.args.states.now) c.requires.0)

pub put-requires : goal.put-requires
put-requires c =
    let h = alone c.no_literals.ensures c.with_literal.ensures in omega (arith, h.count)

pub returns : goal.returns
returns c =
    look_other _ (placed c.requires c.pair_of-pair.ensures c.from.ensures c.from-2.ensures) _ c.if-low-high.false (alone c.no_literals.ensures c.with_literal.ensures) c.put.ensures
