-- `clauses_emit::emit::put` meets its contract. Assumes nothing.
use mathlib.Core.Path.{◌≡◌, sym}
use Prim.Native.Nat.{◌+◌, ◌≤◌}
use native.Mathlib.Omega.{arith}
use lib.ListN.{length}
use lib.Seq.{length-take-le}
use borrow.Author.Rules.{rules}
use Rattle.clauses_emit.specs.Emit.{literals_of, counts_of}
use Rattle.clauses_emit.proofs.Emitting.{put_unwritten, put_stored, put_room}
use Rattle.clauses_emit.proofs.emit.put.Goals as goal

pub returns-then-not-writes : goal.returns-then-not-writes
returns-then-not-writes c =
    let n_literals : c.args.clause.n ≡ length (literals_of c.args.clause) = let e : length c.args.clause.words ≡ 3 = c.well_formed.0.1.1.0.1.0.1 in
    let k : c.args.clause.n ≤ length c.args.clause.words = omega (arith, c.requires) in
    sym (length-take-le c.args.clause.n c.args.clause.words k) in
    put_unwritten _ _ _ n_literals c.writes.ensures c.counted.ensures c.if-not-writes.true

pub offset_bounds-list-at : goal.offset_bounds-list-at
offset_bounds-list-at c =
    let fits : c.args.tally.words + 1 + c.args.clause.n ≤ length c.args.list.now = put_room (counts_of c.args.tally) (literals_of c.args.clause) c.args.list.now _ c.writes.ensures c.if-not-writes.false in
    let f = fits in search rules

pub slice_bounds-store-count : goal.slice_bounds-store-count
slice_bounds-store-count c =
    let fits : c.args.tally.words + 1 + c.args.clause.n ≤ length c.args.list.now = put_room (counts_of c.args.tally) (literals_of c.args.clause) c.args.list.now _ c.writes.ensures c.if-not-writes.false in
    let f = fits in search rules

pub slice_bounds-store-start : goal.slice_bounds-store-start
slice_bounds-store-start c =
    let fits : c.args.tally.words + 1 + c.args.clause.n ≤ length c.args.list.now = put_room (counts_of c.args.tally) (literals_of c.args.clause) c.args.list.now _ c.writes.ensures c.if-not-writes.false in
    let f = fits in search rules

pub store-requires : goal.store-requires
store-requires c =
    let fits : c.args.tally.words + 1 + c.args.clause.n ≤ length c.args.list.now = put_room (counts_of c.args.tally) (literals_of c.args.clause) c.args.list.now _ c.writes.ensures c.if-not-writes.false in
    let f = fits in search rules

pub returns : goal.returns
returns c =
    let n_literals : c.args.clause.n ≡ length (literals_of c.args.clause) = let e : length c.args.clause.words ≡ 3 = c.well_formed.0.1.1.0.1.0.1 in
    let k : c.args.clause.n ≤ length c.args.clause.words = omega (arith, c.requires) in
    sym (length-take-le c.args.clause.n c.args.clause.words k) in
    put_stored _ _ _ n_literals c.writes.ensures c.counted-2.ensures c.if-not-writes.false c.store.ensures
