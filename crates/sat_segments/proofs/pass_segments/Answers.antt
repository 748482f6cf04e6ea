-- `sat_segments::pass_segments` meets its contract. The loop's invariant: every clause is settled, has a variable that was set, or stands in a segment of the set
-- that is still to come. Assumes nothing.
use Rattle.std.proofs.Common.{rules, ◌≡◌, Err}
use native.Mathlib.Omega.{arith}
use mathlib.Core.Path.{sym, ◌∙◌}
use Prim.Native.Nat.{◌+◌, ◌<◌}
use lib.ListN.{get_or}
use Rattle.sat_segments.specs.Segments.{Span}
use Rattle.sat_segments.proofs.Gathering.{gained-keeps}
use Rattle.sat_segments.proofs.Stirring.{pass_lookup}
use Rattle.sat_segments.proofs.Scanning as laws
use Rattle.sat_segments.proofs.pass_segments.Goals as goal

-- ---- what is left

pub scan-init : goal.scan-init
scan-init c =
    (laws.scanning c.requires.ready c.requires.cut.1, c.requires.masks_len.1, c.requires.pair_table.1)

pub scan-preserved-then-not-is_due : goal.scan-preserved-then-not-is_due
scan-preserved-then-not-is_due c =
    (laws.scan-past c.requires.ready c.scan.invariant.0 (sym c.is_due.ensures ∙ c.if-not-is_due.true), c.scan.invariant.1, c.scan.invariant.2)

pub slice_bounds-scan_clauses-count : goal.slice_bounds-scan_clauses-count
slice_bounds-scan_clauses-count c =
    let few : c.scan.k < 1024 = omega (arith, c.scan-test.true) in
    let span : let starts = c.args.starts.now in Span c.args.list.now (get_or starts c.scan.k 0) (get_or starts (c.scan.k + 1) 0) = c.requires.cut.0.each c.scan.k few in
    span.ordered

pub slice_bounds-scan_clauses-start : goal.slice_bounds-scan_clauses-start
slice_bounds-scan_clauses-start c =
    let few : c.scan.k < 1024 = omega (arith, c.scan-test.true) in
    let span : let starts = c.args.starts.now in Span c.args.list.now (get_or starts c.scan.k 0) (get_or starts (c.scan.k + 1) 0) = c.requires.cut.0.each c.scan.k few in
    omega (arith, span.ordered, span.inside)

pub slice_bounds-scan_clauses-end : goal.slice_bounds-scan_clauses-end
slice_bounds-scan_clauses-end c =
    let few : c.scan.k < 1024 = omega (arith, c.scan-test.true) in
    let span : let starts = c.args.starts.now in Span c.args.list.now (get_or starts c.scan.k 0) (get_or starts (c.scan.k + 1) 0) = c.requires.cut.0.each c.scan.k few in
    span.inside

pub scan_clauses-requires : goal.scan_clauses-requires
scan_clauses-requires c =
    let few : c.scan.k < 1024 = omega (arith, c.scan-test.true) in
    let span : let starts = c.args.starts.now in Span c.args.list.now (get_or starts c.scan.k 0) (get_or starts (c.scan.k + 1) 0) = c.requires.cut.0.each c.scan.k few in
    record { list_value = (span.all_there, λ l. absurd (omega (arith, l))); ready = laws.segment_ready c.requires.ready c.scan.invariant.0 c.requires.cut.0 few; pair_table = (c.requires.pair_table.0, c.scan.invariant.2) }

pub returns-in_err-s : goal.returns-in_err-s
returns-in_err-s c =
    let few : c.scan.k < 1024 = omega (arith, c.scan-test.true) in
    let e : c.from_residual.result ≡ Err c.in_err-s.field-0.0 = search rules in
    let k = c.in_err-s.ensures in
    rw e (laws.scan-broken c.requires.ready c.scan.invariant.0 c.requires.cut.0 few k.sifts.pass, k.rows)

pub add_segments-requires : goal.add_segments-requires
add_segments-requires c =
    let few : c.scan.k < 1024 = omega (arith, c.scan-test.true) in
    let r = laws.segment_ready c.requires.ready c.scan.invariant.0 c.requires.cut.0 few in
    (pass_lookup r c.in_ok-s.ensures.sifts.pass c.requires.masks_len.0 (omega (arith, laws.scan-values c.requires.ready c.scan.invariant.0, c.requires.masks_len.2)), c.scan.invariant.1)

pub scan-preserved : goal.scan-preserved
scan-preserved c =
    let few : c.scan.k < 1024 = omega (arith, c.scan-test.true) in
    let g = c.add_segments.ensures in
    (laws.scan_on c.requires.ready c.scan.invariant.0 c.requires.cut.0 few (λ n l. gained-keeps n g l) c.in_ok-s.ensures.sifts.pass, g.long, c.scan_clauses.ensures.rows)

pub returns : goal.returns
returns c = (laws.scan_end c.requires.ready c.scan.invariant.0 c.scan-test.false, c.scan.invariant.2)
