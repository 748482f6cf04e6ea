-- `tops::fixpoint` meets its contract. The invariant: so many rounds from the words as they are give the words to come out, and their sum. Assumes nothing.
use native.Mathlib.Omega.{arith}
use Rattle.table_view.specs.Sections.{sectioned}
use Rattle.tops.proofs.Loops.{rounded, spent}
use Rattle.tops.proofs.Sums.{sum_fits, told_small, told_on, told_end}
use Rattle.tops.proofs.fixpoint.Goals as goal

pub sum_of-sum-requires : goal.sum_of-sum-requires
sum_of-sum-requires c = sum_fits c.requires.1

pub sum_of-new-requires : goal.sum_of-new-requires
unfolding sectioned
sum_of-new-requires c =
    let s = c.requires.0 in
    let told = c.rounds.invariant in
    sum_fits (told_small told s (omega (arith, c.rounds-test.true)) (rounded _ _ c.by_records.ensures c.by_records-in-rounds.ensures c.by_records-in-rounds-2.ensures))

pub returns-then-new-sum : goal.returns-then-new-sum
unfolding sectioned
returns-then-new-sum c =
    let s = c.requires.0 in
    let told = c.rounds.invariant in
    told_end told s (omega (arith, c.rounds-test.true)) (rounded _ _ c.by_records.ensures c.by_records-in-rounds.ensures c.by_records-in-rounds-2.ensures) c.sum_of-new.ensures c.if-new-sum.true

pub rounds-preserved : goal.rounds-preserved
unfolding sectioned
rounds-preserved c =
    let s = c.requires.0 in
    let told = c.rounds.invariant in
    told_on told s (omega (arith, c.rounds-test.true)) (rounded _ _ c.by_records.ensures c.by_records-in-rounds.ensures c.by_records-in-rounds-2.ensures) (omega arith) c.sum_of-new.ensures c.if-new-sum.false

pub returns : goal.returns
returns c = spent c.rounds.invariant.rest (omega (arith, c.rounds-test.false))
