-- `clauses_records::returns::return_tops` meets its contract: the tops so far have their clauses, and the records before the one at hand are below those to come. Assumes nothing.
use mathlib.Core.Path.{◌≡◌, sym, ap, ◌∙◌}
use mathlib.Core.List.{[], ◌∷◌}
use Prim.Native.Nat.{◌-◌, ◌*◌, ◌^◌}
use native.Mathlib.Omega.{arith}
use lib.ListN.{take, drop}
use borrow.Author.Rules.{rules}
use Rattle.lists.specs.Lists.{filter}
use Rattle.lists.proofs.Lowest.{LowestBit}
use Rattle.table_spec.specs.File.{records}
use Rattle.table_find.specs.Spans.{starts_with}
use Rattle.clauses_records.proofs.Walking.{walked, walk_on, walk-starts, walk_ends, walk-found, equal_range_kept}
use Rattle.clauses_records.proofs.Returning.{toward, low, toward_less, toward_on, toward_past, toward_done, of_top}
use Rattle.clauses_records.proofs.returns.return_tops.Goals as goal

-- ---- the needs

pub tops-init : goal.tops-init
tops-init c = (toward _ _ _ _ (search rules), walked _ _)

pub shape_of-list-then-top-count : goal.shape_of-list-then-top-count
shape_of-list-then-top-count c = c.tops.invariant.0.coming.long

pub returns-then-top-count : goal.returns-then-top-count
returns-then-top-count c = toward_past c.tops.invariant.0 c.tops-test.true c.next_state-top.ensures (omega (arith, c.if-top-count.true))

pub reached-from-requires : goal.reached-from-requires
reached-from-requires c = c.tops.invariant.1.within

pub reached-at-requires : goal.reached-at-requires
reached-at-requires c = c.reached-from.ensures.within

pub overflow_mul-start : goal.overflow_mul-start
overflow_mul-start c =
    let lowest : LowestBit c.tops.rest c.next_state-top.result = low c.tops.invariant.0 c.tops-test.true c.next_state-top.ensures in
    omega (arith, walk-starts c.tops.invariant.1 lowest c.reached-from.ensures c.reached-at.ensures, walk_ends c.tops.invariant.1 lowest c.reached-from.ensures c.reached-at.ensures, c.well_formed.0.0)

pub overflow_mul-end : goal.overflow_mul-end
overflow_mul-end c =
    let lowest : LowestBit c.tops.rest c.next_state-top.result = low c.tops.invariant.0 c.tops-test.true c.next_state-top.ensures in
    omega (arith, walk_ends c.tops.invariant.1 lowest c.reached-from.ensures c.reached-at.ensures, c.well_formed.0.0)

pub slice_bounds-return_clause-count : goal.slice_bounds-return_clause-count
slice_bounds-return_clause-count c =
    let lowest : LowestBit c.tops.rest c.next_state-top.result = low c.tops.invariant.0 c.tops-test.true c.next_state-top.ensures in
    walk-starts c.tops.invariant.1 lowest c.reached-from.ensures c.reached-at.ensures

pub slice_bounds-return_clause-start : goal.slice_bounds-return_clause-start
slice_bounds-return_clause-start c =
    let lowest : LowestBit c.tops.rest c.next_state-top.result = low c.tops.invariant.0 c.tops-test.true c.next_state-top.ensures in
    walk-starts c.tops.invariant.1 lowest c.reached-from.ensures c.reached-at.ensures

pub slice_bounds-return_clause-end : goal.slice_bounds-return_clause-end
slice_bounds-return_clause-end c =
    let lowest : LowestBit c.tops.rest c.next_state-top.result = low c.tops.invariant.0 c.tops-test.true c.next_state-top.ensures in
    walk_ends c.tops.invariant.1 lowest c.reached-from.ensures c.reached-at.ensures

pub return_clause-so_far-requires : goal.return_clause-so_far-requires
return_clause-so_far-requires c =
    let lowest : LowestBit c.tops.rest c.next_state-top.result = low c.tops.invariant.0 c.tops-test.true c.next_state-top.ensures in
    let found : records 4 (take (c.reached-at.result * 4 - c.reached-from.result * 4) (drop (c.reached-from.result * 4) c.args.block.now)) ≡ filter (starts_with (c.args.q ∷ c.args.x.symbol ∷ c.next_state-top.result ∷ [])) (records 4 c.args.block.now) = walk-found c.tops.invariant.1 lowest c.reached-from.ensures c.reached-at.ensures c.requires in
    equal_range_kept _ _ c.requires.lent found

pub tops-smaller : goal.tops-smaller
tops-smaller c =
    let k = toward_less c.tops.invariant.0 c.tops-test.true c.next_state-top.ensures in
    omega (arith, c.later_states-rest.ensures)

pub tops-preserved : goal.tops-preserved
tops-preserved c =
    let lowest : LowestBit c.tops.rest c.next_state-top.result = low c.tops.invariant.0 c.tops-test.true c.next_state-top.ensures in
    let found : records 4 (take (c.reached-at.result * 4 - c.reached-from.result * 4) (drop (c.reached-from.result * 4) c.args.block.now)) ≡ filter (starts_with (c.args.q ∷ c.args.x.symbol ∷ c.next_state-top.result ∷ [])) (records 4 c.args.block.now) = walk-found c.tops.invariant.1 lowest c.reached-from.ensures c.reached-at.ensures c.requires in (
      toward_on c.tops.invariant.0 c.tops-test.true c.next_state-top.ensures c.if-top-count.false
          (of_top c.args.block.now _ c.args.x c.args.q c.next_state-top.result found _ c.return_clause-so_far.ensures) c.later_states-rest.ensures,
      walk_on c.tops.invariant.1 lowest c.reached-from.ensures c.reached-at.ensures (c.later_states-rest.ensures ∙ ap (λ x. c.tops.rest - 2 ^ x) (sym c.next_state-top.ensures)),
    )

pub shape_of-list : goal.shape_of-list
shape_of-list c = c.tops.invariant.0.coming.long

pub returns : goal.returns
returns c = toward_done c.tops.invariant.0 c.tops-test.false
