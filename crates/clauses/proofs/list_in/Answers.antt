-- `clauses::list_in` meets its contract: written into the room and copied, refused, or measured. Assumes nothing.
use mathlib.Core.Path.{◌≡◌, sym}
use mathlib.Core.List.{List}
use Prim.Native.Nat.{ℕ}
use native.Mathlib.Omega.{arith}
use lib.ListN.{length, take}
use lib.Seq.{length-take-le}
use Rattle.clauses.proofs.Writing.{room-short, room_copied}
use Rattle.clauses.proofs.list_in.Goals as goal

pub slice_bounds-copy_words-end-then-words-room : goal.slice_bounds-copy_words-end-then-words-room
slice_bounds-copy_words-end-then-words-room c =
    let room : List ℕ = c.all_groups-made.new.list in
    let copied : length (take c.all_groups-made.result.words room) ≡ c.all_groups-made.result.words = length-take-le _ _ c.if-words-room.true in
    sym copied

pub copy_words-requires : goal.copy_words-requires
copy_words-requires c =
    let room : List ℕ = c.all_groups-made.new.list in
    let from : length room ≡ length c.args.room.now = c.all_groups-made.auto.list in
    let copied : length (take c.all_groups-made.result.words room) ≡ c.all_groups-made.result.words = length-take-le _ _ c.if-words-room.true in
    omega (arith, copied, c.if-words-room.true, from, c.requires)

pub returns-then-words-room : goal.returns-then-words-room
returns-then-words-room c =
    let room : List ℕ = c.all_groups-made.new.list in
    let from : length room ≡ length c.args.room.now = c.all_groups-made.auto.list in
    room_copied _ _ c.nothing.ensures c.all_groups-made.ensures _ (omega (arith, c.if-words-room.true, from)) c.requires c.copy_words.ensures

pub returns-then-room-list : goal.returns-then-room-list
returns-then-room-list c =
    let room : List ℕ = c.all_groups-made.new.list in
    let from : length room ≡ length c.args.room.now = c.all_groups-made.auto.list in
    room-short _ _ c.nothing.ensures c.all_groups-made.ensures _ (omega (arith, c.if-words-room.false, from)) (omega (arith, c.if-room-list.true, from))

pub returns : goal.returns
returns c = c.list_measured.ensures
