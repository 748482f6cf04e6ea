-- `table_write::put_table` meets its contract: what is still to be written after each section. Assumes nothing.
use Rattle.table_write.specs.Keys.{record_of}
use Rattle.table_write.specs.Tables.{keyed_table, trailer_from}
use Rattle.table_write.proofs.Whole.{concat_map-long, behind_returns, behind_calls, behind_internals, behind_states, behind_symbols, bytes_apart, length-trailer, bytes-long}
use Rattle.table_write.proofs.Writing.{Writing, begun, written, part_room, finished, part_put, same-long}
use Rattle.table_write.proofs.Keys.{length_last}
use Rattle.lists.proofs.Copying.{length_over}
use Rattle.table_spec.specs.File.{bytes_of}
use Rattle.lists.specs.Lists.{concat_map, over}
use lib.ListN.{length, take, drop}
use native.Mathlib.Omega.{arith}
use Prim.Native.Nat.{ℕ, ◌+◌, ◌-◌, ◌*◌, ◌^◌, ◌<◌}
use mathlib.Core.List.{List, ◌++◌, [], append-nil}
use mathlib.Core.Path.{◌≡◌, refl, sym}
use Rattle.table_write.proofs.put_table.Goals as goal

-- the output when a part that was lent from a place on is back
abbrev back : List ℕ → ℕ → List ℕ → List ℕ
back out at ys = take at out ++ (ys ++ drop (length out - at) (drop at out))

-- ---- the needs

pub put_bytes-requires : goal.put_bytes-requires
put_bytes-requires c =
    let states : List ℕ = c.args.states.now in
    let all : List ℕ = bytes_of (keyed_table c.args.version c.args.symbols.now states c.args.internals.now c.args.calls.now c.args.returns.now) in
    let all-long : length all ≡ length c.args.symbols.now + length states + 3 * length c.args.internals.now + 3 * length c.args.calls.now + 4 * length c.args.returns.now + 12 = bytes-long c.args.version c.args.symbols.now states c.args.internals.now c.args.calls.now c.args.returns.now in
    omega (arith, c.requires, all-long)

pub slice_bounds-put_bytes-count : goal.slice_bounds-put_bytes-count
slice_bounds-put_bytes-count c =
    let states : List ℕ = c.args.states.now in
    let behind : (ℕ → List ℕ → List ℕ → List ℕ → List ℕ → List ℕ → List ℕ) → List ℕ = λ f. f c.args.version c.args.symbols.now states c.args.internals.now c.args.calls.now c.args.returns.now in
    let all : List ℕ = bytes_of (keyed_table c.args.version c.args.symbols.now states c.args.internals.now c.args.calls.now c.args.returns.now) in
    let end : List ℕ = over all c.args.out.now in
    let at2 : ℕ = length c.args.symbols.now in
    let out2 : List ℕ = c.put_bytes.new.out in
    let symbols_put : Writing (behind behind_symbols) end out2 at2 = begun c.args.symbols.now c.args.out.now c.requires (bytes_apart c.args.version c.args.symbols.now states c.args.internals.now c.args.calls.now c.args.returns.now) c.put_bytes.ensures in
    omega (arith, symbols_put.room)

pub slice_bounds-put_bytes-start : goal.slice_bounds-put_bytes-start
slice_bounds-put_bytes-start c =
    let states : List ℕ = c.args.states.now in
    let behind : (ℕ → List ℕ → List ℕ → List ℕ → List ℕ → List ℕ → List ℕ) → List ℕ = λ f. f c.args.version c.args.symbols.now states c.args.internals.now c.args.calls.now c.args.returns.now in
    let all : List ℕ = bytes_of (keyed_table c.args.version c.args.symbols.now states c.args.internals.now c.args.calls.now c.args.returns.now) in
    let end : List ℕ = over all c.args.out.now in
    let at2 : ℕ = length c.args.symbols.now in
    let out2 : List ℕ = c.put_bytes.new.out in
    let symbols_put : Writing (behind behind_symbols) end out2 at2 = begun c.args.symbols.now c.args.out.now c.requires (bytes_apart c.args.version c.args.symbols.now states c.args.internals.now c.args.calls.now c.args.returns.now) c.put_bytes.ensures in
    omega (arith, symbols_put.room)

pub put_bytes-requires-2 : goal.put_bytes-requires-2
put_bytes-requires-2 c =
    let states : List ℕ = c.args.states.now in
    let behind : (ℕ → List ℕ → List ℕ → List ℕ → List ℕ → List ℕ → List ℕ) → List ℕ = λ f. f c.args.version c.args.symbols.now states c.args.internals.now c.args.calls.now c.args.returns.now in
    let all : List ℕ = bytes_of (keyed_table c.args.version c.args.symbols.now states c.args.internals.now c.args.calls.now c.args.returns.now) in
    let end : List ℕ = over all c.args.out.now in
    let at2 : ℕ = length c.args.symbols.now in
    let out2 : List ℕ = c.put_bytes.new.out in
    let symbols_put : Writing (behind behind_symbols) end out2 at2 = begun c.args.symbols.now c.args.out.now c.requires (bytes_apart c.args.version c.args.symbols.now states c.args.internals.now c.args.calls.now c.args.returns.now) c.put_bytes.ensures in
    part_room states (behind behind_states) symbols_put refl

pub slice_bounds-put_keys-count : goal.slice_bounds-put_keys-count
slice_bounds-put_keys-count c =
    let states : List ℕ = c.args.states.now in
    let behind : (ℕ → List ℕ → List ℕ → List ℕ → List ℕ → List ℕ → List ℕ) → List ℕ = λ f. f c.args.version c.args.symbols.now states c.args.internals.now c.args.calls.now c.args.returns.now in
    let all : List ℕ = bytes_of (keyed_table c.args.version c.args.symbols.now states c.args.internals.now c.args.calls.now c.args.returns.now) in
    let end : List ℕ = over all c.args.out.now in
    let at2 : ℕ = length c.args.symbols.now in
    let out2 : List ℕ = c.put_bytes.new.out in
    let symbols_put : Writing (behind behind_symbols) end out2 at2 = begun c.args.symbols.now c.args.out.now c.requires (bytes_apart c.args.version c.args.symbols.now states c.args.internals.now c.args.calls.now c.args.returns.now) c.put_bytes.ensures in
    let at3 : ℕ = at2 + length c.args.states.now in
    let out3 : List ℕ = back out2 at2 c.put_bytes-2.new.out in
    let states_put : Writing (behind behind_states) end out3 at3 = written states symbols_put refl refl (part_put _ _ at2 c.put_bytes-2.ensures) in
    omega (arith, states_put.room)

pub slice_bounds-put_keys-start : goal.slice_bounds-put_keys-start
slice_bounds-put_keys-start c =
    let states : List ℕ = c.args.states.now in
    let behind : (ℕ → List ℕ → List ℕ → List ℕ → List ℕ → List ℕ → List ℕ) → List ℕ = λ f. f c.args.version c.args.symbols.now states c.args.internals.now c.args.calls.now c.args.returns.now in
    let all : List ℕ = bytes_of (keyed_table c.args.version c.args.symbols.now states c.args.internals.now c.args.calls.now c.args.returns.now) in
    let end : List ℕ = over all c.args.out.now in
    let at2 : ℕ = length c.args.symbols.now in
    let out2 : List ℕ = c.put_bytes.new.out in
    let symbols_put : Writing (behind behind_symbols) end out2 at2 = begun c.args.symbols.now c.args.out.now c.requires (bytes_apart c.args.version c.args.symbols.now states c.args.internals.now c.args.calls.now c.args.returns.now) c.put_bytes.ensures in
    let at3 : ℕ = at2 + length c.args.states.now in
    let out3 : List ℕ = back out2 at2 c.put_bytes-2.new.out in
    let states_put : Writing (behind behind_states) end out3 at3 = written states symbols_put refl refl (part_put _ _ at2 c.put_bytes-2.ensures) in
    omega (arith, states_put.room)

pub put_keys-requires : goal.put_keys-requires
put_keys-requires c =
    let states : List ℕ = c.args.states.now in
    let behind : (ℕ → List ℕ → List ℕ → List ℕ → List ℕ → List ℕ → List ℕ) → List ℕ = λ f. f c.args.version c.args.symbols.now states c.args.internals.now c.args.calls.now c.args.returns.now in
    let all : List ℕ = bytes_of (keyed_table c.args.version c.args.symbols.now states c.args.internals.now c.args.calls.now c.args.returns.now) in
    let end : List ℕ = over all c.args.out.now in
    let at2 : ℕ = length c.args.symbols.now in
    let out2 : List ℕ = c.put_bytes.new.out in
    let symbols_put : Writing (behind behind_symbols) end out2 at2 = begun c.args.symbols.now c.args.out.now c.requires (bytes_apart c.args.version c.args.symbols.now states c.args.internals.now c.args.calls.now c.args.returns.now) c.put_bytes.ensures in
    let at3 : ℕ = at2 + length c.args.states.now in
    let out3 : List ℕ = back out2 at2 c.put_bytes-2.new.out in
    let states_put : Writing (behind behind_states) end out3 at3 = written states symbols_put refl refl (part_put _ _ at2 c.put_bytes-2.ensures) in
    (omega arith, part_room (concat_map (record_of 3) c.args.internals.now) (behind behind_internals) states_put refl)

pub overflow_add-at-2 : goal.overflow_add-at-2
overflow_add-at-2 c =
    let states : List ℕ = c.args.states.now in
    let all : List ℕ = bytes_of (keyed_table c.args.version c.args.symbols.now states c.args.internals.now c.args.calls.now c.args.returns.now) in
    let end : List ℕ = over all c.args.out.now in
    let end_long : length end < 2 ^ 64 = omega (arith, length_over all c.args.out.now c.requires, c.well_formed.1.1.1.1.1.1.0.0) in
    let behind : (ℕ → List ℕ → List ℕ → List ℕ → List ℕ → List ℕ → List ℕ) → List ℕ = λ f. f c.args.version c.args.symbols.now states c.args.internals.now c.args.calls.now c.args.returns.now in
    let at2 : ℕ = length c.args.symbols.now in
    let at3 : ℕ = at2 + length c.args.states.now in
    let out2 : List ℕ = c.put_bytes.new.out in
    let symbols_put : Writing (behind behind_symbols) end out2 at2 = begun c.args.symbols.now c.args.out.now c.requires (bytes_apart c.args.version c.args.symbols.now states c.args.internals.now c.args.calls.now c.args.returns.now) c.put_bytes.ensures in
    let out3 : List ℕ = back out2 at2 c.put_bytes-2.new.out in
    let states_put : Writing (behind behind_states) end out3 at3 = written states symbols_put refl refl (part_put _ _ at2 c.put_bytes-2.ensures) in
    let at4 : ℕ = at3 + 3 * length c.args.internals.now in
    let out4 : List ℕ = back out3 at3 c.put_keys.new.out in
    let internals_put : Writing (behind behind_internals) end out4 at4 = written (concat_map (record_of 3) c.args.internals.now) states_put refl (concat_map-long 3 (record_of 3) (λ k. length_last 3 k (omega arith)) c.args.internals.now) (part_put _ _ at3 c.put_keys.ensures) in
    omega (arith, internals_put.room, same-long internals_put, end_long)

pub slice_bounds-put_keys-count-2 : goal.slice_bounds-put_keys-count-2
slice_bounds-put_keys-count-2 c =
    let states : List ℕ = c.args.states.now in
    let behind : (ℕ → List ℕ → List ℕ → List ℕ → List ℕ → List ℕ → List ℕ) → List ℕ = λ f. f c.args.version c.args.symbols.now states c.args.internals.now c.args.calls.now c.args.returns.now in
    let all : List ℕ = bytes_of (keyed_table c.args.version c.args.symbols.now states c.args.internals.now c.args.calls.now c.args.returns.now) in
    let end : List ℕ = over all c.args.out.now in
    let at2 : ℕ = length c.args.symbols.now in
    let at3 : ℕ = at2 + length c.args.states.now in
    let out2 : List ℕ = c.put_bytes.new.out in
    let symbols_put : Writing (behind behind_symbols) end out2 at2 = begun c.args.symbols.now c.args.out.now c.requires (bytes_apart c.args.version c.args.symbols.now states c.args.internals.now c.args.calls.now c.args.returns.now) c.put_bytes.ensures in
    let out3 : List ℕ = back out2 at2 c.put_bytes-2.new.out in
    let states_put : Writing (behind behind_states) end out3 at3 = written states symbols_put refl refl (part_put _ _ at2 c.put_bytes-2.ensures) in
    let at4 : ℕ = at3 + 3 * length c.args.internals.now in
    let out4 : List ℕ = back out3 at3 c.put_keys.new.out in
    let internals_put : Writing (behind behind_internals) end out4 at4 = written (concat_map (record_of 3) c.args.internals.now) states_put refl (concat_map-long 3 (record_of 3) (λ k. length_last 3 k (omega arith)) c.args.internals.now) (part_put _ _ at3 c.put_keys.ensures) in
    omega (arith, internals_put.room)

pub slice_bounds-put_keys-start-2 : goal.slice_bounds-put_keys-start-2
slice_bounds-put_keys-start-2 c =
    let states : List ℕ = c.args.states.now in
    let behind : (ℕ → List ℕ → List ℕ → List ℕ → List ℕ → List ℕ → List ℕ) → List ℕ = λ f. f c.args.version c.args.symbols.now states c.args.internals.now c.args.calls.now c.args.returns.now in
    let all : List ℕ = bytes_of (keyed_table c.args.version c.args.symbols.now states c.args.internals.now c.args.calls.now c.args.returns.now) in
    let end : List ℕ = over all c.args.out.now in
    let at2 : ℕ = length c.args.symbols.now in
    let at3 : ℕ = at2 + length c.args.states.now in
    let out2 : List ℕ = c.put_bytes.new.out in
    let symbols_put : Writing (behind behind_symbols) end out2 at2 = begun c.args.symbols.now c.args.out.now c.requires (bytes_apart c.args.version c.args.symbols.now states c.args.internals.now c.args.calls.now c.args.returns.now) c.put_bytes.ensures in
    let out3 : List ℕ = back out2 at2 c.put_bytes-2.new.out in
    let states_put : Writing (behind behind_states) end out3 at3 = written states symbols_put refl refl (part_put _ _ at2 c.put_bytes-2.ensures) in
    let at4 : ℕ = at3 + 3 * length c.args.internals.now in
    let out4 : List ℕ = back out3 at3 c.put_keys.new.out in
    let internals_put : Writing (behind behind_internals) end out4 at4 = written (concat_map (record_of 3) c.args.internals.now) states_put refl (concat_map-long 3 (record_of 3) (λ k. length_last 3 k (omega arith)) c.args.internals.now) (part_put _ _ at3 c.put_keys.ensures) in
    omega (arith, internals_put.room)

pub put_keys-requires-2 : goal.put_keys-requires-2
put_keys-requires-2 c =
    let states : List ℕ = c.args.states.now in
    let behind : (ℕ → List ℕ → List ℕ → List ℕ → List ℕ → List ℕ → List ℕ) → List ℕ = λ f. f c.args.version c.args.symbols.now states c.args.internals.now c.args.calls.now c.args.returns.now in
    let all : List ℕ = bytes_of (keyed_table c.args.version c.args.symbols.now states c.args.internals.now c.args.calls.now c.args.returns.now) in
    let end : List ℕ = over all c.args.out.now in
    let at2 : ℕ = length c.args.symbols.now in
    let at3 : ℕ = at2 + length c.args.states.now in
    let out2 : List ℕ = c.put_bytes.new.out in
    let symbols_put : Writing (behind behind_symbols) end out2 at2 = begun c.args.symbols.now c.args.out.now c.requires (bytes_apart c.args.version c.args.symbols.now states c.args.internals.now c.args.calls.now c.args.returns.now) c.put_bytes.ensures in
    let out3 : List ℕ = back out2 at2 c.put_bytes-2.new.out in
    let states_put : Writing (behind behind_states) end out3 at3 = written states symbols_put refl refl (part_put _ _ at2 c.put_bytes-2.ensures) in
    let at4 : ℕ = at3 + 3 * length c.args.internals.now in
    let out4 : List ℕ = back out3 at3 c.put_keys.new.out in
    let internals_put : Writing (behind behind_internals) end out4 at4 = written (concat_map (record_of 3) c.args.internals.now) states_put refl (concat_map-long 3 (record_of 3) (λ k. length_last 3 k (omega arith)) c.args.internals.now) (part_put _ _ at3 c.put_keys.ensures) in
    (omega arith, part_room (concat_map (record_of 3) c.args.calls.now) (behind behind_calls) internals_put refl)

pub overflow_add-at-3 : goal.overflow_add-at-3
overflow_add-at-3 c =
    let states : List ℕ = c.args.states.now in
    let all : List ℕ = bytes_of (keyed_table c.args.version c.args.symbols.now states c.args.internals.now c.args.calls.now c.args.returns.now) in
    let end : List ℕ = over all c.args.out.now in
    let end_long : length end < 2 ^ 64 = omega (arith, length_over all c.args.out.now c.requires, c.well_formed.1.1.1.1.1.1.0.0) in
    let behind : (ℕ → List ℕ → List ℕ → List ℕ → List ℕ → List ℕ → List ℕ) → List ℕ = λ f. f c.args.version c.args.symbols.now states c.args.internals.now c.args.calls.now c.args.returns.now in
    let at2 : ℕ = length c.args.symbols.now in
    let at3 : ℕ = at2 + length c.args.states.now in
    let at4 : ℕ = at3 + 3 * length c.args.internals.now in
    let out2 : List ℕ = c.put_bytes.new.out in
    let symbols_put : Writing (behind behind_symbols) end out2 at2 = begun c.args.symbols.now c.args.out.now c.requires (bytes_apart c.args.version c.args.symbols.now states c.args.internals.now c.args.calls.now c.args.returns.now) c.put_bytes.ensures in
    let out3 : List ℕ = back out2 at2 c.put_bytes-2.new.out in
    let states_put : Writing (behind behind_states) end out3 at3 = written states symbols_put refl refl (part_put _ _ at2 c.put_bytes-2.ensures) in
    let out4 : List ℕ = back out3 at3 c.put_keys.new.out in
    let internals_put : Writing (behind behind_internals) end out4 at4 = written (concat_map (record_of 3) c.args.internals.now) states_put refl (concat_map-long 3 (record_of 3) (λ k. length_last 3 k (omega arith)) c.args.internals.now) (part_put _ _ at3 c.put_keys.ensures) in
    let at5 : ℕ = at4 + 3 * length c.args.calls.now in
    let out5 : List ℕ = back out4 at4 c.put_keys-2.new.out in
    let calls_put : Writing (behind behind_calls) end out5 at5 = written (concat_map (record_of 3) c.args.calls.now) internals_put refl (concat_map-long 3 (record_of 3) (λ k. length_last 3 k (omega arith)) c.args.calls.now) (part_put _ _ at4 c.put_keys-2.ensures) in
    omega (arith, calls_put.room, same-long calls_put, end_long)

pub slice_bounds-put_keys-count-3 : goal.slice_bounds-put_keys-count-3
slice_bounds-put_keys-count-3 c =
    let states : List ℕ = c.args.states.now in
    let behind : (ℕ → List ℕ → List ℕ → List ℕ → List ℕ → List ℕ → List ℕ) → List ℕ = λ f. f c.args.version c.args.symbols.now states c.args.internals.now c.args.calls.now c.args.returns.now in
    let all : List ℕ = bytes_of (keyed_table c.args.version c.args.symbols.now states c.args.internals.now c.args.calls.now c.args.returns.now) in
    let end : List ℕ = over all c.args.out.now in
    let at2 : ℕ = length c.args.symbols.now in
    let at3 : ℕ = at2 + length c.args.states.now in
    let at4 : ℕ = at3 + 3 * length c.args.internals.now in
    let out2 : List ℕ = c.put_bytes.new.out in
    let symbols_put : Writing (behind behind_symbols) end out2 at2 = begun c.args.symbols.now c.args.out.now c.requires (bytes_apart c.args.version c.args.symbols.now states c.args.internals.now c.args.calls.now c.args.returns.now) c.put_bytes.ensures in
    let out3 : List ℕ = back out2 at2 c.put_bytes-2.new.out in
    let states_put : Writing (behind behind_states) end out3 at3 = written states symbols_put refl refl (part_put _ _ at2 c.put_bytes-2.ensures) in
    let out4 : List ℕ = back out3 at3 c.put_keys.new.out in
    let internals_put : Writing (behind behind_internals) end out4 at4 = written (concat_map (record_of 3) c.args.internals.now) states_put refl (concat_map-long 3 (record_of 3) (λ k. length_last 3 k (omega arith)) c.args.internals.now) (part_put _ _ at3 c.put_keys.ensures) in
    let at5 : ℕ = at4 + 3 * length c.args.calls.now in
    let out5 : List ℕ = back out4 at4 c.put_keys-2.new.out in
    let calls_put : Writing (behind behind_calls) end out5 at5 = written (concat_map (record_of 3) c.args.calls.now) internals_put refl (concat_map-long 3 (record_of 3) (λ k. length_last 3 k (omega arith)) c.args.calls.now) (part_put _ _ at4 c.put_keys-2.ensures) in
    omega (arith, calls_put.room)

pub slice_bounds-put_keys-start-3 : goal.slice_bounds-put_keys-start-3
slice_bounds-put_keys-start-3 c =
    let states : List ℕ = c.args.states.now in
    let behind : (ℕ → List ℕ → List ℕ → List ℕ → List ℕ → List ℕ → List ℕ) → List ℕ = λ f. f c.args.version c.args.symbols.now states c.args.internals.now c.args.calls.now c.args.returns.now in
    let all : List ℕ = bytes_of (keyed_table c.args.version c.args.symbols.now states c.args.internals.now c.args.calls.now c.args.returns.now) in
    let end : List ℕ = over all c.args.out.now in
    let at2 : ℕ = length c.args.symbols.now in
    let at3 : ℕ = at2 + length c.args.states.now in
    let at4 : ℕ = at3 + 3 * length c.args.internals.now in
    let out2 : List ℕ = c.put_bytes.new.out in
    let symbols_put : Writing (behind behind_symbols) end out2 at2 = begun c.args.symbols.now c.args.out.now c.requires (bytes_apart c.args.version c.args.symbols.now states c.args.internals.now c.args.calls.now c.args.returns.now) c.put_bytes.ensures in
    let out3 : List ℕ = back out2 at2 c.put_bytes-2.new.out in
    let states_put : Writing (behind behind_states) end out3 at3 = written states symbols_put refl refl (part_put _ _ at2 c.put_bytes-2.ensures) in
    let out4 : List ℕ = back out3 at3 c.put_keys.new.out in
    let internals_put : Writing (behind behind_internals) end out4 at4 = written (concat_map (record_of 3) c.args.internals.now) states_put refl (concat_map-long 3 (record_of 3) (λ k. length_last 3 k (omega arith)) c.args.internals.now) (part_put _ _ at3 c.put_keys.ensures) in
    let at5 : ℕ = at4 + 3 * length c.args.calls.now in
    let out5 : List ℕ = back out4 at4 c.put_keys-2.new.out in
    let calls_put : Writing (behind behind_calls) end out5 at5 = written (concat_map (record_of 3) c.args.calls.now) internals_put refl (concat_map-long 3 (record_of 3) (λ k. length_last 3 k (omega arith)) c.args.calls.now) (part_put _ _ at4 c.put_keys-2.ensures) in
    omega (arith, calls_put.room)

pub put_keys-requires-3 : goal.put_keys-requires-3
put_keys-requires-3 c =
    let states : List ℕ = c.args.states.now in
    let behind : (ℕ → List ℕ → List ℕ → List ℕ → List ℕ → List ℕ → List ℕ) → List ℕ = λ f. f c.args.version c.args.symbols.now states c.args.internals.now c.args.calls.now c.args.returns.now in
    let all : List ℕ = bytes_of (keyed_table c.args.version c.args.symbols.now states c.args.internals.now c.args.calls.now c.args.returns.now) in
    let end : List ℕ = over all c.args.out.now in
    let at2 : ℕ = length c.args.symbols.now in
    let at3 : ℕ = at2 + length c.args.states.now in
    let at4 : ℕ = at3 + 3 * length c.args.internals.now in
    let out2 : List ℕ = c.put_bytes.new.out in
    let symbols_put : Writing (behind behind_symbols) end out2 at2 = begun c.args.symbols.now c.args.out.now c.requires (bytes_apart c.args.version c.args.symbols.now states c.args.internals.now c.args.calls.now c.args.returns.now) c.put_bytes.ensures in
    let out3 : List ℕ = back out2 at2 c.put_bytes-2.new.out in
    let states_put : Writing (behind behind_states) end out3 at3 = written states symbols_put refl refl (part_put _ _ at2 c.put_bytes-2.ensures) in
    let out4 : List ℕ = back out3 at3 c.put_keys.new.out in
    let internals_put : Writing (behind behind_internals) end out4 at4 = written (concat_map (record_of 3) c.args.internals.now) states_put refl (concat_map-long 3 (record_of 3) (λ k. length_last 3 k (omega arith)) c.args.internals.now) (part_put _ _ at3 c.put_keys.ensures) in
    let at5 : ℕ = at4 + 3 * length c.args.calls.now in
    let out5 : List ℕ = back out4 at4 c.put_keys-2.new.out in
    let calls_put : Writing (behind behind_calls) end out5 at5 = written (concat_map (record_of 3) c.args.calls.now) internals_put refl (concat_map-long 3 (record_of 3) (λ k. length_last 3 k (omega arith)) c.args.calls.now) (part_put _ _ at4 c.put_keys-2.ensures) in
    (omega arith, part_room (concat_map (record_of 4) c.args.returns.now) (behind behind_returns) calls_put refl)

pub overflow_add-at-4 : goal.overflow_add-at-4
overflow_add-at-4 c =
    let states : List ℕ = c.args.states.now in
    let all : List ℕ = bytes_of (keyed_table c.args.version c.args.symbols.now states c.args.internals.now c.args.calls.now c.args.returns.now) in
    let end : List ℕ = over all c.args.out.now in
    let end_long : length end < 2 ^ 64 = omega (arith, length_over all c.args.out.now c.requires, c.well_formed.1.1.1.1.1.1.0.0) in
    let behind : (ℕ → List ℕ → List ℕ → List ℕ → List ℕ → List ℕ → List ℕ) → List ℕ = λ f. f c.args.version c.args.symbols.now states c.args.internals.now c.args.calls.now c.args.returns.now in
    let at2 : ℕ = length c.args.symbols.now in
    let at3 : ℕ = at2 + length c.args.states.now in
    let at4 : ℕ = at3 + 3 * length c.args.internals.now in
    let at5 : ℕ = at4 + 3 * length c.args.calls.now in
    let out2 : List ℕ = c.put_bytes.new.out in
    let symbols_put : Writing (behind behind_symbols) end out2 at2 = begun c.args.symbols.now c.args.out.now c.requires (bytes_apart c.args.version c.args.symbols.now states c.args.internals.now c.args.calls.now c.args.returns.now) c.put_bytes.ensures in
    let out3 : List ℕ = back out2 at2 c.put_bytes-2.new.out in
    let states_put : Writing (behind behind_states) end out3 at3 = written states symbols_put refl refl (part_put _ _ at2 c.put_bytes-2.ensures) in
    let out4 : List ℕ = back out3 at3 c.put_keys.new.out in
    let internals_put : Writing (behind behind_internals) end out4 at4 = written (concat_map (record_of 3) c.args.internals.now) states_put refl (concat_map-long 3 (record_of 3) (λ k. length_last 3 k (omega arith)) c.args.internals.now) (part_put _ _ at3 c.put_keys.ensures) in
    let out5 : List ℕ = back out4 at4 c.put_keys-2.new.out in
    let calls_put : Writing (behind behind_calls) end out5 at5 = written (concat_map (record_of 3) c.args.calls.now) internals_put refl (concat_map-long 3 (record_of 3) (λ k. length_last 3 k (omega arith)) c.args.calls.now) (part_put _ _ at4 c.put_keys-2.ensures) in
    let at6 : ℕ = at5 + 4 * length c.args.returns.now in
    let out6 : List ℕ = back out5 at5 c.put_keys-3.new.out in
    let returns_put : Writing (behind behind_returns) end out6 at6 = written (concat_map (record_of 4) c.args.returns.now) calls_put refl (concat_map-long 4 (record_of 4) (λ k. length_last 4 k (omega arith)) c.args.returns.now) (part_put _ _ at5 c.put_keys-3.ensures) in
    omega (arith, returns_put.room, same-long returns_put, end_long)

pub slice_bounds-put_trailer-count : goal.slice_bounds-put_trailer-count
slice_bounds-put_trailer-count c =
    let states : List ℕ = c.args.states.now in
    let behind : (ℕ → List ℕ → List ℕ → List ℕ → List ℕ → List ℕ → List ℕ) → List ℕ = λ f. f c.args.version c.args.symbols.now states c.args.internals.now c.args.calls.now c.args.returns.now in
    let all : List ℕ = bytes_of (keyed_table c.args.version c.args.symbols.now states c.args.internals.now c.args.calls.now c.args.returns.now) in
    let end : List ℕ = over all c.args.out.now in
    let at2 : ℕ = length c.args.symbols.now in
    let at3 : ℕ = at2 + length c.args.states.now in
    let at4 : ℕ = at3 + 3 * length c.args.internals.now in
    let at5 : ℕ = at4 + 3 * length c.args.calls.now in
    let out2 : List ℕ = c.put_bytes.new.out in
    let symbols_put : Writing (behind behind_symbols) end out2 at2 = begun c.args.symbols.now c.args.out.now c.requires (bytes_apart c.args.version c.args.symbols.now states c.args.internals.now c.args.calls.now c.args.returns.now) c.put_bytes.ensures in
    let out3 : List ℕ = back out2 at2 c.put_bytes-2.new.out in
    let states_put : Writing (behind behind_states) end out3 at3 = written states symbols_put refl refl (part_put _ _ at2 c.put_bytes-2.ensures) in
    let out4 : List ℕ = back out3 at3 c.put_keys.new.out in
    let internals_put : Writing (behind behind_internals) end out4 at4 = written (concat_map (record_of 3) c.args.internals.now) states_put refl (concat_map-long 3 (record_of 3) (λ k. length_last 3 k (omega arith)) c.args.internals.now) (part_put _ _ at3 c.put_keys.ensures) in
    let out5 : List ℕ = back out4 at4 c.put_keys-2.new.out in
    let calls_put : Writing (behind behind_calls) end out5 at5 = written (concat_map (record_of 3) c.args.calls.now) internals_put refl (concat_map-long 3 (record_of 3) (λ k. length_last 3 k (omega arith)) c.args.calls.now) (part_put _ _ at4 c.put_keys-2.ensures) in
    let at6 : ℕ = at5 + 4 * length c.args.returns.now in
    let out6 : List ℕ = back out5 at5 c.put_keys-3.new.out in
    let returns_put : Writing (behind behind_returns) end out6 at6 = written (concat_map (record_of 4) c.args.returns.now) calls_put refl (concat_map-long 4 (record_of 4) (λ k. length_last 4 k (omega arith)) c.args.returns.now) (part_put _ _ at5 c.put_keys-3.ensures) in
    omega (arith, returns_put.room)

pub slice_bounds-put_trailer-start : goal.slice_bounds-put_trailer-start
slice_bounds-put_trailer-start c =
    let states : List ℕ = c.args.states.now in
    let behind : (ℕ → List ℕ → List ℕ → List ℕ → List ℕ → List ℕ → List ℕ) → List ℕ = λ f. f c.args.version c.args.symbols.now states c.args.internals.now c.args.calls.now c.args.returns.now in
    let all : List ℕ = bytes_of (keyed_table c.args.version c.args.symbols.now states c.args.internals.now c.args.calls.now c.args.returns.now) in
    let end : List ℕ = over all c.args.out.now in
    let at2 : ℕ = length c.args.symbols.now in
    let at3 : ℕ = at2 + length c.args.states.now in
    let at4 : ℕ = at3 + 3 * length c.args.internals.now in
    let at5 : ℕ = at4 + 3 * length c.args.calls.now in
    let out2 : List ℕ = c.put_bytes.new.out in
    let symbols_put : Writing (behind behind_symbols) end out2 at2 = begun c.args.symbols.now c.args.out.now c.requires (bytes_apart c.args.version c.args.symbols.now states c.args.internals.now c.args.calls.now c.args.returns.now) c.put_bytes.ensures in
    let out3 : List ℕ = back out2 at2 c.put_bytes-2.new.out in
    let states_put : Writing (behind behind_states) end out3 at3 = written states symbols_put refl refl (part_put _ _ at2 c.put_bytes-2.ensures) in
    let out4 : List ℕ = back out3 at3 c.put_keys.new.out in
    let internals_put : Writing (behind behind_internals) end out4 at4 = written (concat_map (record_of 3) c.args.internals.now) states_put refl (concat_map-long 3 (record_of 3) (λ k. length_last 3 k (omega arith)) c.args.internals.now) (part_put _ _ at3 c.put_keys.ensures) in
    let out5 : List ℕ = back out4 at4 c.put_keys-2.new.out in
    let calls_put : Writing (behind behind_calls) end out5 at5 = written (concat_map (record_of 3) c.args.calls.now) internals_put refl (concat_map-long 3 (record_of 3) (λ k. length_last 3 k (omega arith)) c.args.calls.now) (part_put _ _ at4 c.put_keys-2.ensures) in
    let at6 : ℕ = at5 + 4 * length c.args.returns.now in
    let out6 : List ℕ = back out5 at5 c.put_keys-3.new.out in
    let returns_put : Writing (behind behind_returns) end out6 at6 = written (concat_map (record_of 4) c.args.returns.now) calls_put refl (concat_map-long 4 (record_of 4) (λ k. length_last 4 k (omega arith)) c.args.returns.now) (part_put _ _ at5 c.put_keys-3.ensures) in
    omega (arith, returns_put.room)

pub put_trailer-requires : goal.put_trailer-requires
put_trailer-requires c =
    let states : List ℕ = c.args.states.now in
    let behind : (ℕ → List ℕ → List ℕ → List ℕ → List ℕ → List ℕ → List ℕ) → List ℕ = λ f. f c.args.version c.args.symbols.now states c.args.internals.now c.args.calls.now c.args.returns.now in
    let all : List ℕ = bytes_of (keyed_table c.args.version c.args.symbols.now states c.args.internals.now c.args.calls.now c.args.returns.now) in
    let all-long : length all ≡ length c.args.symbols.now + length states + 3 * length c.args.internals.now + 3 * length c.args.calls.now + 4 * length c.args.returns.now + 12 = bytes-long c.args.version c.args.symbols.now states c.args.internals.now c.args.calls.now c.args.returns.now in
    let end : List ℕ = over all c.args.out.now in
    let at2 : ℕ = length c.args.symbols.now in
    let at3 : ℕ = at2 + length c.args.states.now in
    let at4 : ℕ = at3 + 3 * length c.args.internals.now in
    let at5 : ℕ = at4 + 3 * length c.args.calls.now in
    let out2 : List ℕ = c.put_bytes.new.out in
    let symbols_put : Writing (behind behind_symbols) end out2 at2 = begun c.args.symbols.now c.args.out.now c.requires (bytes_apart c.args.version c.args.symbols.now states c.args.internals.now c.args.calls.now c.args.returns.now) c.put_bytes.ensures in
    let out3 : List ℕ = back out2 at2 c.put_bytes-2.new.out in
    let states_put : Writing (behind behind_states) end out3 at3 = written states symbols_put refl refl (part_put _ _ at2 c.put_bytes-2.ensures) in
    let out4 : List ℕ = back out3 at3 c.put_keys.new.out in
    let internals_put : Writing (behind behind_internals) end out4 at4 = written (concat_map (record_of 3) c.args.internals.now) states_put refl (concat_map-long 3 (record_of 3) (λ k. length_last 3 k (omega arith)) c.args.internals.now) (part_put _ _ at3 c.put_keys.ensures) in
    let out5 : List ℕ = back out4 at4 c.put_keys-2.new.out in
    let calls_put : Writing (behind behind_calls) end out5 at5 = written (concat_map (record_of 3) c.args.calls.now) internals_put refl (concat_map-long 3 (record_of 3) (λ k. length_last 3 k (omega arith)) c.args.calls.now) (part_put _ _ at4 c.put_keys-2.ensures) in
    let at6 : ℕ = at5 + 4 * length c.args.returns.now in
    let out6 : List ℕ = back out5 at5 c.put_keys-3.new.out in
    let returns_put : Writing (behind behind_returns) end out6 at6 = written (concat_map (record_of 4) c.args.returns.now) calls_put refl (concat_map-long 4 (record_of 4) (λ k. length_last 4 k (omega arith)) c.args.returns.now) (part_put _ _ at5 c.put_keys-3.ensures) in
    let r = part_room (behind behind_returns) [] returns_put (sym (append-nil (behind behind_returns))) in
    (omega (arith, c.requires, all-long, c.well_formed.1.1.1.1.1.1.0.0), rw (length-trailer c.args.version c.args.symbols.now states c.args.internals.now c.args.calls.now c.args.returns.now) at r)

pub returns : goal.returns
returns c =
    let states : List ℕ = c.args.states.now in
    let behind : (ℕ → List ℕ → List ℕ → List ℕ → List ℕ → List ℕ → List ℕ) → List ℕ = λ f. f c.args.version c.args.symbols.now states c.args.internals.now c.args.calls.now c.args.returns.now in
    let all : List ℕ = bytes_of (keyed_table c.args.version c.args.symbols.now states c.args.internals.now c.args.calls.now c.args.returns.now) in
    let end : List ℕ = over all c.args.out.now in
    let at2 : ℕ = length c.args.symbols.now in
    let at3 : ℕ = at2 + length c.args.states.now in
    let at4 : ℕ = at3 + 3 * length c.args.internals.now in
    let at5 : ℕ = at4 + 3 * length c.args.calls.now in
    let at6 : ℕ = at5 + 4 * length c.args.returns.now in
    let out2 : List ℕ = c.put_bytes.new.out in
    let out3 : List ℕ = back out2 at2 c.put_bytes-2.new.out in
    let out4 : List ℕ = back out3 at3 c.put_keys.new.out in
    let out5 : List ℕ = back out4 at4 c.put_keys-2.new.out in
    let out6 : List ℕ = back out5 at5 c.put_keys-3.new.out in
    let symbols_put : Writing (behind behind_symbols) end out2 at2 = begun c.args.symbols.now c.args.out.now c.requires (bytes_apart c.args.version c.args.symbols.now states c.args.internals.now c.args.calls.now c.args.returns.now) c.put_bytes.ensures in
    let states_put : Writing (behind behind_states) end out3 at3 = written states symbols_put refl refl (part_put _ _ at2 c.put_bytes-2.ensures) in
    let internals_put : Writing (behind behind_internals) end out4 at4 = written (concat_map (record_of 3) c.args.internals.now) states_put refl (concat_map-long 3 (record_of 3) (λ k. length_last 3 k (omega arith)) c.args.internals.now) (part_put _ _ at3 c.put_keys.ensures) in
    let calls_put : Writing (behind behind_calls) end out5 at5 = written (concat_map (record_of 3) c.args.calls.now) internals_put refl (concat_map-long 3 (record_of 3) (λ k. length_last 3 k (omega arith)) c.args.calls.now) (part_put _ _ at4 c.put_keys-2.ensures) in
    let returns_put : Writing (behind behind_returns) end out6 at6 = written (concat_map (record_of 4) c.args.returns.now) calls_put refl (concat_map-long 4 (record_of 4) (λ k. length_last 4 k (omega arith)) c.args.returns.now) (part_put _ _ at5 c.put_keys-3.ensures) in
    let at7 : ℕ = at6 + 12 in
    let out7 : List ℕ = back out6 at6 c.put_trailer.new.out in
    let all_put : Writing [] end out7 at7 = let t = trailer_from c.args.version (length c.args.symbols.now) (length states) (length c.args.internals.now) (length c.args.calls.now) (length c.args.returns.now) in
    written (behind behind_returns) returns_put (sym (append-nil (behind behind_returns))) (length-trailer c.args.version c.args.symbols.now states c.args.internals.now c.args.calls.now c.args.returns.now) (part_put t out6 at6 c.put_trailer.ensures) in
    finished all_put
