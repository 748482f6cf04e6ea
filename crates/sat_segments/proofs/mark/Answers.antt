-- `sat_segments::mark` meets its contract. The loops' invariant: the segments before this one are whole, and every clause passed is marked. Assumes nothing.
use native.Mathlib.Omega.{arith}
use Prim.Native.Nat.{◌<◌}
use lib.ListN.{length}
use lib.Seq.{get_or-set_same}
use Rattle.sat_segments.proofs.Cutting as laws
use Rattle.sat_segments.proofs.mark.Goals as goal

pub segments-init : goal.segments-init
segments-init c =
    (laws.marking c.args.starts.now _ c.requires.list_value.0 c.requires.starts_len.0 c.requires.starts_len.1, get_or-set_same c.args.starts.now 0 0 0 (omega (arith, c.requires.starts_len.0)), omega arith, λ h. absurd (omega (arith, h)))

pub bounds-list-at : goal.bounds-list-at
bounds-list-at c =
    let inside : c.clauses.at < length c.args.list.now = omega (arith, c.clauses-test.true, c.limit_of-limit.ensures, laws.limit_inside (length c.args.list.now) c.segments.at c.segments.k c.segments.invariant.0.before.inside) in
    inside

pub overflow_add-end : goal.overflow_add-end
overflow_add-end c =
    let inside : c.clauses.at < length c.args.list.now = omega (arith, c.clauses-test.true, c.limit_of-limit.ensures, laws.limit_inside (length c.args.list.now) c.segments.at c.segments.k c.segments.invariant.0.before.inside) in
    omega (arith, laws.lent_end c.clauses.invariant inside c.from.ensures)

pub slice_bounds-mark_clause-end : goal.slice_bounds-mark_clause-end
slice_bounds-mark_clause-end c =
    let inside : c.clauses.at < length c.args.list.now = omega (arith, c.clauses-test.true, c.limit_of-limit.ensures, laws.limit_inside (length c.args.list.now) c.segments.at c.segments.k c.segments.invariant.0.before.inside) in
    laws.lent_end c.clauses.invariant inside c.from.ensures

pub mark_clause-requires : goal.mark_clause-requires
mark_clause-requires c =
    let inside : c.clauses.at < length c.args.list.now = omega (arith, c.clauses-test.true, c.limit_of-limit.ensures, laws.limit_inside (length c.args.list.now) c.segments.at c.segments.k c.segments.invariant.0.before.inside) in
    let i = c.clauses.invariant in
    (laws.lent-over i inside c.from.ensures c.requires.list_value.1, c.segments-test.true, i.room)

pub clauses-smaller : goal.clauses-smaller
clauses-smaller c =
    let inside : c.clauses.at < length c.args.list.now = omega (arith, c.clauses-test.true, c.limit_of-limit.ensures, laws.limit_inside (length c.args.list.now) c.segments.at c.segments.k c.segments.invariant.0.before.inside) in
    omega (arith, inside)

pub clauses-preserved : goal.clauses-preserved
clauses-preserved c =
    let inside : c.clauses.at < length c.args.list.now = omega (arith, c.clauses-test.true, c.limit_of-limit.ensures, laws.limit_inside (length c.args.list.now) c.segments.at c.segments.k c.segments.invariant.0.before.inside) in
    laws.mark-lent c.clauses.invariant inside c.from.ensures c.mark_clause.ensures

pub segments-preserved : goal.segments-preserved
segments-preserved c =
    let i = c.clauses.invariant in
    let t = c.segments-test.true in
    (laws.mark_close i t, laws.ends_there i t, omega (arith, t), λ m. omega (arith, m, c.clauses-test.false, c.limit_of-limit.ensures, laws.limit_last (length c.args.list.now) c.segments.at c.segments.k (omega (arith, m, t))))

pub returns : goal.returns
returns c =
    let i = c.segments.invariant in
    laws.marked_all i.0 (omega (arith, i.2, c.segments-test.false)) i.1 (i.3 c.segments-test.false)
