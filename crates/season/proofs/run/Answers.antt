-- `season::run` meets its contract: before each table the rest is still to come. Assumes nothing.
use borrow.Author.Rules.{rules}
use Prim.Native.Nat.{◌+◌, ◌<◌, ◌^◌}
use native.Mathlib.Omega.{arith}
use lib.ListN.{length, get_or, take, drop}
use Rattle.season.specs.Turns.{Turned}
use Rattle.season.proofs.Going.{begin_going, ended, allowed_fits, table_in, of_parts, guesses_in_lem, turn_row_long, map-room, out-room, next-back}
use Rattle.season.proofs.run.Goals as goal

-- a buffer's length fits 64 bits
maps-fit : (c : goal.After-struct_known-in-tables-1) → length c.args.maps.now < 2 ^ 64
maps-fit c = search rules

out-fit : (c : goal.After-struct_known-in-tables-2-1) → length c.args.out.now < 2 ^ 64
out-fit c = search rules

pub tables-init : goal.tables-init
tables-init c = begin_going c.args.limits c.args.share c.args.lengths.now c.args.tables.now c.args.list.now c.args.maps.now c.args.out.now c.requires.0 c.requires.1

pub overflow_add-next : goal.overflow_add-next
overflow_add-next c = let h = table_in _ _ _ _ _ _ _ c.tables.invariant c.tables-test.true in search rules

pub slice_bounds-take_turn-end : goal.slice_bounds-take_turn-end
slice_bounds-take_turn-end c = let h = table_in _ _ _ _ _ _ _ c.tables.invariant c.tables-test.true in search rules

pub overflow_add-share : goal.overflow_add-share
overflow_add-share c = let h = allowed_fits _ _ _ _ _ _ _ c.tables.invariant c.tables-test.true in search rules

pub slice_bounds-take_turn-count-in-tables : goal.slice_bounds-take_turn-count-in-tables
slice_bounds-take_turn-count-in-tables c = let h = c.tables.invariant.map_in in search rules

pub slice_bounds-take_turn-start-in-tables : goal.slice_bounds-take_turn-start-in-tables
slice_bounds-take_turn-start-in-tables c = let h = c.tables.invariant.map_in in search rules

pub slice_bounds-take_turn-end-in-tables : goal.slice_bounds-take_turn-end-in-tables
slice_bounds-take_turn-end-in-tables c = let h = c.tables.invariant.map_in in search rules

pub slice_bounds-take_turn-count-in-tables-2 : goal.slice_bounds-take_turn-count-in-tables-2
slice_bounds-take_turn-count-in-tables-2 c = let h = c.tables.invariant.out_in in search rules

pub slice_bounds-take_turn-start-in-tables-2 : goal.slice_bounds-take_turn-start-in-tables-2
slice_bounds-take_turn-start-in-tables-2 c = let h = c.tables.invariant.out_in in search rules

pub slice_bounds-take_turn-end-in-tables-2 : goal.slice_bounds-take_turn-end-in-tables-2
slice_bounds-take_turn-end-in-tables-2 c = let h = c.tables.invariant.out_in in search rules

pub put_row-requires : goal.put_row-requires
put_row-requires c =
    let turn_of : Turned c.args.limits (take (get_or c.args.lengths.now c.tables.i 0) (drop c.tables.at c.args.tables.now)) (c.args.share + c.tables.saved) c.tables.list (drop c.tables.map_at c.tables.maps) (drop c.tables.out_at c.tables.out) c.take_turn-turn.result c.take_turn-turn.new.list c.take_turn-turn.new.map c.take_turn-turn.new.out = of_parts _ _ _ _ _ _ _ c.tables.invariant c.tables-test.true c.take_turn-turn.ensures in
    (omega (arith, c.tables.invariant.few, c.tables-test.true), c.tables.invariant.values-long, turn_row_long _ _ _ _ _ _ _ c.tables.invariant c.tables-test.true turn_of)

pub overflow_add-saved : goal.overflow_add-saved
overflow_add-saved c = let h = allowed_fits _ _ _ _ _ _ _ c.tables.invariant c.tables-test.true in search rules

pub overflow_sub-saved : goal.overflow_sub-saved
overflow_sub-saved c =
    let turn_of : Turned c.args.limits (take (get_or c.args.lengths.now c.tables.i 0) (drop c.tables.at c.args.tables.now)) (c.args.share + c.tables.saved) c.tables.list (drop c.tables.map_at c.tables.maps) (drop c.tables.out_at c.tables.out) c.take_turn-turn.result c.take_turn-turn.new.list c.take_turn-turn.new.map c.take_turn-turn.new.out = of_parts _ _ _ _ _ _ _ c.tables.invariant c.tables-test.true c.take_turn-turn.ensures in
    guesses_in_lem _ _ _ _ _ _ _ c.tables.invariant c.tables-test.true turn_of

pub overflow_add-map_at : goal.overflow_add-map_at
overflow_add-map_at c =
    let turn_of : Turned c.args.limits (take (get_or c.args.lengths.now c.tables.i 0) (drop c.tables.at c.args.tables.now)) (c.args.share + c.tables.saved) c.tables.list (drop c.tables.map_at c.tables.maps) (drop c.tables.out_at c.tables.out) c.take_turn-turn.result c.take_turn-turn.new.list c.take_turn-turn.new.map c.take_turn-turn.new.out = of_parts _ _ _ _ _ _ _ c.tables.invariant c.tables-test.true c.take_turn-turn.ensures in
    let h = map-room _ _ _ _ _ _ _ c.tables.invariant c.tables-test.true turn_of (search rules) in
    let l = maps-fit c in
    record { fits = omega (arith, h, l, c.tables.invariant.maps-long) }

pub overflow_add-out_at : goal.overflow_add-out_at
overflow_add-out_at c =
    let turn_of : Turned c.args.limits (take (get_or c.args.lengths.now c.tables.i 0) (drop c.tables.at c.args.tables.now)) (c.args.share + c.tables.saved) c.tables.list (drop c.tables.map_at c.tables.maps) (drop c.tables.out_at c.tables.out) c.take_turn-turn.result c.take_turn-turn.new.list c.take_turn-turn.new.map c.take_turn-turn.new.out = of_parts _ _ _ _ _ _ _ c.tables.invariant c.tables-test.true c.take_turn-turn.ensures in
    let h = out-room _ _ _ _ _ _ _ c.tables.invariant c.tables-test.true turn_of (search rules) in
    let l = out-fit c in
    record { fits = omega (arith, h, l, c.tables.invariant.out-long) }

pub tables-preserved : goal.tables-preserved
tables-preserved c =
    let turn_of : Turned c.args.limits (take (get_or c.args.lengths.now c.tables.i 0) (drop c.tables.at c.args.tables.now)) (c.args.share + c.tables.saved) c.tables.list (drop c.tables.map_at c.tables.maps) (drop c.tables.out_at c.tables.out) c.take_turn-turn.result c.take_turn-turn.new.list c.take_turn-turn.new.map c.take_turn-turn.new.out = of_parts _ _ _ _ _ _ _ c.tables.invariant c.tables-test.true c.take_turn-turn.ensures in
    next-back _ _ _ _ _ _ _ c.tables.invariant c.tables-test.true turn_of c.put_row.ensures (search rules) (search rules) (search rules)

pub shape_of-list : goal.shape_of-list
shape_of-list c = c.tables.invariant.list-long

pub shape_of-maps : goal.shape_of-maps
shape_of-maps c = c.tables.invariant.maps-long

pub shape_of-out : goal.shape_of-out
shape_of-out c = c.tables.invariant.out-long

pub returns : goal.returns
returns c = ended _ _ _ _ _ _ _ c.tables.invariant c.tables-test.false
