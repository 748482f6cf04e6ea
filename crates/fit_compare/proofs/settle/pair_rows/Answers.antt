-- `fit_compare::settle::pair_rows` meets its contract: where the second table goes, the initial pairs, the quick walk and the rounds. Assumes nothing.
use native.Mathlib.Omega.{arith}
use Rattle.fit_rounds.proofs.Passing.{few-pairs}
use Rattle.fit_links.proofs.Quickly.{bare_rows}
use Rattle.fit_compare.proofs.Reading.{internals-ascend, calls-ascend, returns-ascend}
use Rattle.fit_compare.proofs.Handing.{both-few, sink_count, three_named, given, inner_of, pushing_of, popping_of, rows-tops}
use Rattle.fit_compare.proofs.settle.pair_rows.Goals as goal

pub narrow-sink-requires : goal.narrow-sink-requires
narrow-sink-requires c = omega (arith, (both-few c.requires c.part-states.ensures c.part-others.ensures).1)

pub next_moves-moves-requires : goal.next_moves-moves-requires
next_moves-moves-requires c =
    internals-ascend c.requires.second (sink_count c.requires c.part-states.ensures c.part-others.ensures c.narrow-sink.ensures) c.part.ensures

pub next_moves-pushes-requires : goal.next_moves-pushes-requires
next_moves-pushes-requires c =
    calls-ascend c.requires.second (sink_count c.requires c.part-states.ensures c.part-others.ensures c.narrow-sink.ensures) c.part-2.ensures

pub next_returns-pops-requires : goal.next_returns-pops-requires
next_returns-pops-requires c =
    returns-ascend c.requires.second (sink_count c.requires c.part-states.ensures c.part-others.ensures c.narrow-sink.ensures) c.part-3.ensures

pub start_rows-requires : goal.start_rows-requires
start_rows-requires c =
    both-few c.requires c.part-states.ensures c.part-others.ensures

pub quick-requires : goal.quick-requires
quick-requires c =
    let part-gave = c.part-states.ensures in
    let part2-gave = c.part-others.ensures in
    let t = three_named c.requires part-gave part2-gave c.part-internals.ensures c.part-calls.ensures c.part-returns.ensures in
    let z = c.narrow-sink.ensures in
    let few = (both-few c.requires part-gave part2-gave).0 in
    (record { calls-named = t.1; returns-named = t.2; pushes_go = rw z at c.next_moves-pushes.ensures.1; pops_go = rw z at c.next_returns-pops.ensures.1; few = few }, t.0, rw z at c.next_moves-moves.ensures.1)

pub rest-requires : goal.rest-requires
rest-requires c =
    let part-gave = c.part-states.ensures in
    let part2-gave = c.part-others.ensures in
    let t = three_named c.requires part-gave part2-gave c.part-internals.ensures c.part-calls.ensures c.part-returns.ensures in
    let z = c.narrow-sink.ensures in
    (t.0, t.1, t.2, rw z at c.next_moves-moves.ensures.1, rw z at c.next_moves-pushes.ensures.1, rw z at c.next_returns-pops.ensures.1, (both-few c.requires part-gave part2-gave).0)

pub returns : goal.returns
returns c =
    let part-gave = c.part-states.ensures in
    let part2-gave = c.part-others.ensures in
    let d = given c.requires part-gave part2-gave c.part-internals.ensures c.part-calls.ensures c.part-returns.ensures c.narrow-sink.ensures c.part.ensures c.part-2.ensures c.part-3.ensures c.next_moves-moves.ensures.0 c.next_moves-pushes.ensures.0 c.next_returns-pops.ensures.0 in
    let l = both-few c.requires part-gave part2-gave in
    rows-tops c.requires part-gave part2-gave (λ s t e f. c.start_rows.ensures s t e f (bare_rows (few-pairs l.0 l.1)))
    (c.quick.ensures _ _ (inner_of c.requires part-gave part2-gave d) (pushing_of c.requires part-gave part2-gave d) (popping_of c.requires part-gave part2-gave d)) (c.rest.ensures _ _ d)
