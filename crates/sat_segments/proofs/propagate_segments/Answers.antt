-- `sat_segments::propagate_segments` meets its contract. The loop's invariant: what was set so far are unit steps, and every clause waits for the queue only; each pass
-- but the last sets a variable. Assumes nothing.
use Rattle.std.proofs.Common.{rules, ◌≡◌, refl, Err}
use native.Mathlib.Omega.{arith}
use Rattle.cnf.specs.Clauses.{clauses_in}
use Rattle.pairs.specs.Triangles.{triangles}
use Rattle.sat_trail.proofs.Working.{queue-part}
use Rattle.sat_passes.proofs.Attending.{to_cs, to_ds}
use Rattle.sat_passes.proofs.Passes as passing
use Rattle.sat_segments.proofs.Stirring as laws
use Rattle.sat_segments.proofs.propagate_segments.Goals as goal

-- ---- what is left

pub passes-init : goal.passes-init
passes-init c =
    let cs = clauses_in c.args.list.now in
    let ds = triangles c.args.n in
    (passing.settling cs ds c.requires.ready.0 (queue-part ds _ (to_ds cs ds) c.requires.ready.1), (queue-part cs _ (to_cs cs ds) c.requires.ready.1).waiting, c.requires.pair_table.1)

pub drain-requires : goal.drain-requires
drain-requires c =
    let i = c.passes.invariant in
    record { ready = (passing.drain_ready i.0, i.2); pair_table = (c.requires.pair_table.0, i.0.queue) }

pub returns-in_err-mid : goal.returns-in_err-mid
returns-in_err-mid c =
    let e : c.from_residual.result ≡ Err c.in_err-mid.field-0.0 = search rules in
    let k = c.in_err-mid.ensures in
    rw e (passing.drain_broken c.passes.invariant.0 k.0 refl, k.1)

pub add_segments-requires : goal.add_segments-requires
add_segments-requires c =
    let i = c.passes.invariant.0 in
    let e = c.in_ok-mid.ensures.0 in
    let p = c.requires.marked in
    let o = laws.drain_ordered i e in
    (laws.lookup i e p.0.long p.1 (omega arith) (omega (arith, o)) (omega (arith, o)), c.no_segments-set.ensures)

pub pass_segments-requires : goal.pass_segments-requires
pass_segments-requires c =
    let i = c.passes.invariant in
    let e = c.in_ok-mid.ensures in
    let s = c.add_segments.ensures in
    record { cut = (c.requires.marked.0.cut, laws.settled_or_due c.requires.marked.0 s (laws.drained_waiting i.0 e.0 i.1)); masks_len = (c.requires.marked.0.long, s.long, omega (arith, passing.drained_values i.0 e.0, c.requires.marked.1)); ready = passing.pass-ready i.0 e.0; pair_table = (c.requires.pair_table.0, e.1) }

pub returns-in_err-count : goal.returns-in_err-count
returns-in_err-count c =
    let r : c.from_residual-in_err-count.result ≡ Err c.in_err-count.field-0.0 = search rules in
    let k = c.in_err-count.ensures in
    rw r (passing.propagate_passes_broken c.passes.invariant.0 c.in_ok-mid.ensures.0 refl k.0 refl, k.1)

pub returns-then-count-at : goal.returns-then-count-at
returns-then-count-at c =
    let i = c.passes.invariant in
    let e = c.in_ok-mid.ensures in
    (passing.propagate_passes_rest i.0 e.0 refl c.in_ok-count.ensures.0 refl c.if-count-at.true, c.in_ok-count.ensures.1)

pub passes-smaller : goal.passes-smaller
passes-smaller c =
    let i = c.passes.invariant in
    let e = c.in_ok-mid.ensures in
    passing.propagate_passes_less i.0 e.0 refl c.in_ok-count.ensures.0 c.if-count-at.false

pub passes-preserved : goal.passes-preserved
passes-preserved c =
    let i = c.passes.invariant in
    let e = c.in_ok-mid.ensures in
    let p = c.in_ok-count.ensures in
    (passing.propagate_passes_more i.0 e.0 refl p.0 refl, laws.pass-waiting (passing.pass-ready i.0 e.0) p.0, p.1)
