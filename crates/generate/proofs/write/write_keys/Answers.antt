-- `generate::write::write_keys` meets its contract: too short, or written. Assumes nothing.
use Rattle.std.proofs.Common.{arith}
use Rattle.table_write.proofs.Keys.{holds-long}
use Rattle.generate_spec.specs.Loads.{symbol_bytes, state_bytes}
use Rattle.generate_spec.proofs.Bytes.{length_symbols, length-states}
use Rattle.generate.proofs.Writing.{put_front, short, room, put}
use Rattle.generate.proofs.write.write_keys.Goals as goal

pub overflow_mul-records : goal.overflow_mul-records
overflow_mul-records c =
    omega (arith, c.requires.0, c.requires.2)

pub overflow_mul-records-2 : goal.overflow_mul-records-2
overflow_mul-records-2 c =
    omega (arith, c.requires.0, c.requires.2)

pub overflow_add-records : goal.overflow_add-records
overflow_add-records c =
    omega (arith, c.requires.0, c.requires.2)

pub overflow_mul-records-3 : goal.overflow_mul-records-3
overflow_mul-records-3 c =
    omega (arith, c.requires.0, c.requires.2)

pub overflow_add-records-2 : goal.overflow_add-records-2
overflow_add-records-2 c =
    omega (arith, c.requires.0, c.requires.2)

pub overflow_add-length : goal.overflow_add-length
overflow_add-length c =
    omega (arith, c.requires.0, c.requires.2)

pub overflow_add-length-2 : goal.overflow_add-length-2
overflow_add-length-2 c =
    omega (arith, c.requires.0, c.requires.2)

pub overflow_add-length-3 : goal.overflow_add-length-3
overflow_add-length-3 c =
    omega (arith, c.requires.0, c.requires.2)

pub returns-then-out-length : goal.returns-then-out-length
returns-then-out-length c = short c.args.states c.args.internals c.args.calls c.args.symbols c.args.moves.now c.args.pushes.now c.args.pops.now c.args.out.now c.if-out-length.true

pub put_symbols-requires : goal.put_symbols-requires
put_symbols-requires c = (omega (arith, c.requires.0, c.requires.1), c.requires.0.symbols-few)

pub put_states-requires : goal.put_states-requires
put_states-requires c = c.requires.0.states-few

pub slice_bounds-symbol_bytes-end : goal.slice_bounds-symbol_bytes-end
slice_bounds-symbol_bytes-end c = omega (arith, c.requires.0)

pub slice_bounds-put_table-end : goal.slice_bounds-put_table-end
slice_bounds-put_table-end c =
    holds-long (put_front (symbol_bytes c.args.internals c.args.calls c.args.symbols) _ _ (length_symbols _ _ _) c.put_symbols.ensures)

pub slice_bounds-state_bytes-end : goal.slice_bounds-state_bytes-end
slice_bounds-state_bytes-end c = omega (arith, c.requires.0)

pub slice_bounds-put_table-end-2 : goal.slice_bounds-put_table-end-2
slice_bounds-put_table-end-2 c =
    holds-long (put_front (state_bytes c.args.states) _ _ (length-states _) c.put_states.ensures)

pub put_table-requires : goal.put_table-requires
put_table-requires c =
    room c.args.states c.args.internals c.args.calls c.args.symbols c.args.moves.now c.args.pushes.now c.args.pops.now (put_front (symbol_bytes c.args.internals c.args.calls c.args.symbols) _ _ (length_symbols _ _ _) c.put_symbols.ensures) (put_front (state_bytes c.args.states) _ _ (length-states _) c.put_states.ensures) c.args.out.now c.if-out-length.false

pub returns : goal.returns
returns c =
    put c.args.states c.args.internals c.args.calls c.args.symbols c.args.moves.now c.args.pushes.now c.args.pops.now (put_front (symbol_bytes c.args.internals c.args.calls c.args.symbols) _ _ (length_symbols _ _ _) c.put_symbols.ensures) (put_front (state_bytes c.args.states) _ _ (length-states _) c.put_states.ensures) c.args.out.now c.if-out-length.false c.put_table.ensures
