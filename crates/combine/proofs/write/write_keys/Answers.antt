-- `combine::write::write_keys` meets its contract: too short, or written. Assumes nothing.
use native.Mathlib.Omega.{arith}
use Rattle.table_write.proofs.Keys.{holds-long}
use Rattle.combine.proofs.Combining.{states-held, short, room, put}
use Rattle.combine.proofs.write.write_keys.Goals as goal

pub state_count-states-requires : goal.state_count-states-requires
state_count-states-requires c =
    (c.requires.firsts-few, c.requires.seconds-few)

pub overflow_mul-records : goal.overflow_mul-records
overflow_mul-records c =
    omega (arith, c.requires)

pub overflow_mul-records-2 : goal.overflow_mul-records-2
overflow_mul-records-2 c =
    omega (arith, c.requires)

pub overflow_add-records : goal.overflow_add-records
overflow_add-records c =
    omega (arith, c.requires)

pub overflow_mul-records-3 : goal.overflow_mul-records-3
overflow_mul-records-3 c =
    omega (arith, c.requires)

pub overflow_add-records-2 : goal.overflow_add-records-2
overflow_add-records-2 c =
    omega (arith, c.requires)

pub overflow_add-length : goal.overflow_add-length
overflow_add-length c =
    omega (arith, c.requires, c.state_count-states.ensures)

pub overflow_add-length-2 : goal.overflow_add-length-2
overflow_add-length-2 c =
    omega (arith, c.requires, c.state_count-states.ensures)

pub overflow_add-length-3 : goal.overflow_add-length-3
overflow_add-length-3 c =
    omega (arith, c.requires, c.state_count-states.ensures)

pub returns-then-out-length : goal.returns-then-out-length
returns-then-out-length c =
    short c.args.how c.args.version c.args.symbols.now c.args.first.now c.args.second.now c.args.moves.now c.args.pushes.now c.args.pops.now c.state_count-states.ensures c.args.out.now c.if-out-length.true

pub put_states-requires : goal.put_states-requires
put_states-requires c =
    (c.state_count-states.ensures, omega (arith, c.state_count-states.ensures, c.requires.states-few))

pub slice_bounds-state_bytes-end : goal.slice_bounds-state_bytes-end
slice_bounds-state_bytes-end c =
    omega (arith, c.state_count-states.ensures, c.requires.states-few)

pub slice_bounds-put_table-end : goal.slice_bounds-put_table-end
slice_bounds-put_table-end c =
    holds-long (states-held c.args.how c.args.first.now c.args.second.now _ c.state_count-states.ensures c.put_states.ensures)

pub put_table-requires : goal.put_table-requires
put_table-requires c =
    room c.args.how c.args.version c.args.symbols.now c.args.first.now c.args.second.now c.args.moves.now c.args.pushes.now c.args.pops.now c.state_count-states.ensures (states-held c.args.how c.args.first.now c.args.second.now _ c.state_count-states.ensures c.put_states.ensures) c.args.out.now (omega (arith, c.if-out-length.false))

pub returns : goal.returns
returns c =
    put c.args.how c.args.version c.args.symbols.now c.args.first.now c.args.second.now c.args.moves.now c.args.pushes.now c.args.pops.now c.state_count-states.ensures (states-held c.args.how c.args.first.now c.args.second.now _ c.state_count-states.ensures c.put_states.ensures) c.args.out.now (omega (arith, c.if-out-length.false)) c.put_table.ensures
