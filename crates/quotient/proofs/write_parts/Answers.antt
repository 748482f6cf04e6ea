-- `quotient::write_parts` meets its contract: too short, or written. Assumes nothing.
use Rattle.table_spec.specs.File.{of_states}
use Rattle.table_write.proofs.Keys.{holds-long}
use Rattle.quotient.proofs.Quotienting.{Few, counts-few, states_put, fits, short, put}
use native.Mathlib.Omega.{arith}
use Rattle.quotient.proofs.write_parts.Goals as goal

pub collect-i-requires : goal.collect-i-requires
collect-i-requires c = (omega arith, omega arith, c.requires.internals-few)

pub collect-c-requires : goal.collect-c-requires
collect-c-requires c = (omega arith, omega arith, c.requires.calls-few)

pub collect-r-requires : goal.collect-r-requires
collect-r-requires c = (omega arith, omega arith, c.requires.returns-few)

pub overflow_add-length : goal.overflow_add-length
overflow_add-length c =
    let few : Few c.args.sections.now.symbols.now c.class_count-classes.result c.collect-i.result c.collect-c.result c.collect-r.result = counts-few c.args.version c.args.sections.now.symbols.now c.args.sections.now.states.now c.args.sections.now.internals.now c.args.sections.now.calls.now c.args.sections.now.returns.now c.args.words.now c.args.map.now c.class_count-classes.ensures c.collect-i.ensures c.collect-c.ensures c.collect-r.ensures c.requires (λ k. (c.type_inv.map k).fits) in
    omega (arith, few)

pub overflow_mul-length : goal.overflow_mul-length
overflow_mul-length c =
    let few : Few c.args.sections.now.symbols.now c.class_count-classes.result c.collect-i.result c.collect-c.result c.collect-r.result = counts-few c.args.version c.args.sections.now.symbols.now c.args.sections.now.states.now c.args.sections.now.internals.now c.args.sections.now.calls.now c.args.sections.now.returns.now c.args.words.now c.args.map.now c.class_count-classes.ensures c.collect-i.ensures c.collect-c.ensures c.collect-r.ensures c.requires (λ k. (c.type_inv.map k).fits) in
    omega (arith, few)

pub overflow_add-length-2 : goal.overflow_add-length-2
overflow_add-length-2 c =
    let few : Few c.args.sections.now.symbols.now c.class_count-classes.result c.collect-i.result c.collect-c.result c.collect-r.result = counts-few c.args.version c.args.sections.now.symbols.now c.args.sections.now.states.now c.args.sections.now.internals.now c.args.sections.now.calls.now c.args.sections.now.returns.now c.args.words.now c.args.map.now c.class_count-classes.ensures c.collect-i.ensures c.collect-c.ensures c.collect-r.ensures c.requires (λ k. (c.type_inv.map k).fits) in
    omega (arith, few)

pub overflow_mul-length-2 : goal.overflow_mul-length-2
overflow_mul-length-2 c =
    let few : Few c.args.sections.now.symbols.now c.class_count-classes.result c.collect-i.result c.collect-c.result c.collect-r.result = counts-few c.args.version c.args.sections.now.symbols.now c.args.sections.now.states.now c.args.sections.now.internals.now c.args.sections.now.calls.now c.args.sections.now.returns.now c.args.words.now c.args.map.now c.class_count-classes.ensures c.collect-i.ensures c.collect-c.ensures c.collect-r.ensures c.requires (λ k. (c.type_inv.map k).fits) in
    omega (arith, few)

pub overflow_add-length-3 : goal.overflow_add-length-3
overflow_add-length-3 c =
    let few : Few c.args.sections.now.symbols.now c.class_count-classes.result c.collect-i.result c.collect-c.result c.collect-r.result = counts-few c.args.version c.args.sections.now.symbols.now c.args.sections.now.states.now c.args.sections.now.internals.now c.args.sections.now.calls.now c.args.sections.now.returns.now c.args.words.now c.args.map.now c.class_count-classes.ensures c.collect-i.ensures c.collect-c.ensures c.collect-r.ensures c.requires (λ k. (c.type_inv.map k).fits) in
    omega (arith, few)

pub overflow_mul-length-3 : goal.overflow_mul-length-3
overflow_mul-length-3 c =
    let few : Few c.args.sections.now.symbols.now c.class_count-classes.result c.collect-i.result c.collect-c.result c.collect-r.result = counts-few c.args.version c.args.sections.now.symbols.now c.args.sections.now.states.now c.args.sections.now.internals.now c.args.sections.now.calls.now c.args.sections.now.returns.now c.args.words.now c.args.map.now c.class_count-classes.ensures c.collect-i.ensures c.collect-c.ensures c.collect-r.ensures c.requires (λ k. (c.type_inv.map k).fits) in
    omega (arith, few)

pub overflow_add-length-4 : goal.overflow_add-length-4
overflow_add-length-4 c =
    let few : Few c.args.sections.now.symbols.now c.class_count-classes.result c.collect-i.result c.collect-c.result c.collect-r.result = counts-few c.args.version c.args.sections.now.symbols.now c.args.sections.now.states.now c.args.sections.now.internals.now c.args.sections.now.calls.now c.args.sections.now.returns.now c.args.words.now c.args.map.now c.class_count-classes.ensures c.collect-i.ensures c.collect-c.ensures c.collect-r.ensures c.requires (λ k. (c.type_inv.map k).fits) in
    omega (arith, few)

pub overflow_add-length-5 : goal.overflow_add-length-5
overflow_add-length-5 c =
    let few : Few c.args.sections.now.symbols.now c.class_count-classes.result c.collect-i.result c.collect-c.result c.collect-r.result = counts-few c.args.version c.args.sections.now.symbols.now c.args.sections.now.states.now c.args.sections.now.internals.now c.args.sections.now.calls.now c.args.sections.now.returns.now c.args.words.now c.args.map.now c.class_count-classes.ensures c.collect-i.ensures c.collect-c.ensures c.collect-r.ensures c.requires (λ k. (c.type_inv.map k).fits) in
    omega (arith, few)

pub returns-then-out-length : goal.returns-then-out-length
returns-then-out-length c =
    short c.args.version c.args.sections.now.symbols.now c.args.sections.now.states.now c.args.sections.now.internals.now c.args.sections.now.calls.now c.args.sections.now.returns.now c.args.words.now c.args.map.now c.class_count-classes.ensures c.collect-i.ensures c.collect-c.ensures c.collect-r.ensures c.args.out.now c.if-out-length.true

pub put_states-requires : goal.put_states-requires
put_states-requires c =
    let few : Few c.args.sections.now.symbols.now c.class_count-classes.result c.collect-i.result c.collect-c.result c.collect-r.result = counts-few c.args.version c.args.sections.now.symbols.now c.args.sections.now.states.now c.args.sections.now.internals.now c.args.sections.now.calls.now c.args.sections.now.returns.now c.args.words.now c.args.map.now c.class_count-classes.ensures c.collect-i.ensures c.collect-c.ensures c.collect-r.ensures c.requires (λ k. (c.type_inv.map k).fits) in
    let k = few.classes in (k, k)

pub slice_bounds-state_bytes-end : goal.slice_bounds-state_bytes-end
slice_bounds-state_bytes-end c =
    let few : Few c.args.sections.now.symbols.now c.class_count-classes.result c.collect-i.result c.collect-c.result c.collect-r.result = counts-few c.args.version c.args.sections.now.symbols.now c.args.sections.now.states.now c.args.sections.now.internals.now c.args.sections.now.calls.now c.args.sections.now.returns.now c.args.words.now c.args.map.now c.class_count-classes.ensures c.collect-i.ensures c.collect-c.ensures c.collect-r.ensures c.requires (λ k. (c.type_inv.map k).fits) in
    omega (arith, few.classes)

pub slice_bounds-put_table-end : goal.slice_bounds-put_table-end
slice_bounds-put_table-end c =
    holds-long (states_put (of_states c.args.sections.now.states.now) c.args.map.now _ _ c.put_states.ensures)

pub slice_bounds-internal_keys-end : goal.slice_bounds-internal_keys-end
slice_bounds-internal_keys-end c =
    let few : Few c.args.sections.now.symbols.now c.class_count-classes.result c.collect-i.result c.collect-c.result c.collect-r.result = counts-few c.args.version c.args.sections.now.symbols.now c.args.sections.now.states.now c.args.sections.now.internals.now c.args.sections.now.calls.now c.args.sections.now.returns.now c.args.words.now c.args.map.now c.class_count-classes.ensures c.collect-i.ensures c.collect-c.ensures c.collect-r.ensures c.requires (λ k. (c.type_inv.map k).fits) in
    omega (arith, few.internals)

pub slice_bounds-put_table-end-2 : goal.slice_bounds-put_table-end-2
slice_bounds-put_table-end-2 c = holds-long c.collect-i.ensures

pub slice_bounds-call_keys-end : goal.slice_bounds-call_keys-end
slice_bounds-call_keys-end c =
    let few : Few c.args.sections.now.symbols.now c.class_count-classes.result c.collect-i.result c.collect-c.result c.collect-r.result = counts-few c.args.version c.args.sections.now.symbols.now c.args.sections.now.states.now c.args.sections.now.internals.now c.args.sections.now.calls.now c.args.sections.now.returns.now c.args.words.now c.args.map.now c.class_count-classes.ensures c.collect-i.ensures c.collect-c.ensures c.collect-r.ensures c.requires (λ k. (c.type_inv.map k).fits) in
    omega (arith, few.calls)

pub slice_bounds-put_table-end-3 : goal.slice_bounds-put_table-end-3
slice_bounds-put_table-end-3 c = holds-long c.collect-c.ensures

pub slice_bounds-return_keys-end : goal.slice_bounds-return_keys-end
slice_bounds-return_keys-end c =
    let few : Few c.args.sections.now.symbols.now c.class_count-classes.result c.collect-i.result c.collect-c.result c.collect-r.result = counts-few c.args.version c.args.sections.now.symbols.now c.args.sections.now.states.now c.args.sections.now.internals.now c.args.sections.now.calls.now c.args.sections.now.returns.now c.args.words.now c.args.map.now c.class_count-classes.ensures c.collect-i.ensures c.collect-c.ensures c.collect-r.ensures c.requires (λ k. (c.type_inv.map k).fits) in
    omega (arith, few.returns)

pub slice_bounds-put_table-end-4 : goal.slice_bounds-put_table-end-4
slice_bounds-put_table-end-4 c = holds-long c.collect-r.ensures

pub put_table-requires : goal.put_table-requires
put_table-requires c =
    fits c.args.version c.args.sections.now.symbols.now c.args.sections.now.states.now c.args.sections.now.internals.now c.args.sections.now.calls.now c.args.sections.now.returns.now c.args.words.now c.args.map.now c.class_count-classes.ensures c.collect-i.ensures c.collect-c.ensures c.collect-r.ensures (states_put (of_states c.args.sections.now.states.now) c.args.map.now _ _ c.put_states.ensures) c.args.out.now c.if-out-length.false

pub returns : goal.returns
returns c =
    put c.args.version c.args.sections.now.symbols.now c.args.sections.now.states.now c.args.sections.now.internals.now c.args.sections.now.calls.now c.args.sections.now.returns.now c.args.words.now c.args.map.now c.class_count-classes.ensures c.collect-i.ensures c.collect-c.ensures c.collect-r.ensures (states_put (of_states c.args.sections.now.states.now) c.args.map.now _ _ c.put_states.ensures) c.args.out.now c.if-out-length.false c.put_table.ensures
