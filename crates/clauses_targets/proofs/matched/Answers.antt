-- `clauses_targets::matched` meets its contract: the clause is left out, or counted and written. Assumes nothing.
use mathlib.Core.Path.{◌≡◌, refl}
use Prim.Native.Nat.{◌+◌, ◌/◌, ◌≤◌}
use native.Mathlib.Omega.{arith}
use lib.ListN.{length}
use borrow.Author.Rules.{rules}
use Rattle.clauses_emit.specs.Emit.{counts_of}
use Rattle.clauses_emit.proofs.Emitting.{put_unwritten, put_stored, put_room}
use Rattle.clauses_targets.specs.Targets.{Counted}
use Rattle.clauses_targets.proofs.Targeting.{clause, found-counted, clause-left, clause-long, clause_put}
use Rattle.clauses_targets.proofs.matched.Goals as goal

pub left_out-requires : goal.left_out-requires
left_out-requires c = (c.requires.some-width, c.requires.two)

pub returns-then-left_out : goal.returns-then-left_out
returns-then-left_out c =
    let three_words : length c.args.premises.words ≡ 3 = c.well_formed.1.1.1.0.1.1.0.1.0.1 in
    clause-left c.args.premises three_words c.requires.two c.args.target c.requires _ c.left_out.ensures c.if-left_out.true

pub overflow_add-n : goal.overflow_add-n
overflow_add-n c =
    let three_words : length c.args.premises.words ≡ 3 = c.well_formed.1.1.1.0.1.1.0.1.0.1 in
    let many : Counted c.args.width c.args.found.now (length c.args.found.now / c.args.width) = found-counted c.args.premises three_words c.requires.two c.args.target c.requires refl in
    omega (arith, many.few, c.requires.two)

pub counted-requires : goal.counted-requires
counted-requires c =
    let three_words : length c.args.premises.words ≡ 3 = c.well_formed.1.1.1.0.1.1.0.1.0.1 in
    let many : Counted c.args.width c.args.found.now (length c.args.found.now / c.args.width) = found-counted c.args.premises three_words c.requires.two c.args.target c.requires refl in
    let few = many.few in
    let two = c.requires.two in
    search rules

pub returns-then-not-writes : goal.returns-then-not-writes
returns-then-not-writes c =
    let three_words : length c.args.premises.words ≡ 3 = c.well_formed.1.1.1.0.1.1.0.1.0.1 in
    let many : Counted c.args.width c.args.found.now (length c.args.found.now / c.args.width) = found-counted c.args.premises three_words c.requires.two c.args.target c.requires refl in
    let p = c.args.premises in
    let t = c.args.target in
    let o = c.requires in
    clause_put p three_words o.two t o _ c.left_out.ensures c.if-left_out.false
    (put_unwritten _ _ _ (clause-long p three_words o.two t o many) c.writes.ensures c.counted.ensures c.if-not-writes.true)

pub offset_bounds-list-at : goal.offset_bounds-list-at
offset_bounds-list-at c =
    let three_words : length c.args.premises.words ≡ 3 = c.well_formed.1.1.1.0.1.1.0.1.0.1 in
    let fits : c.args.tally.words + 1 + (c.args.premises.n + length c.args.found.now / c.args.width) ≤ length c.args.list.now = put_room (counts_of c.args.tally) (clause c.args.premises three_words c.requires.two c.args.target c.requires) c.args.list.now _ c.writes.ensures c.if-not-writes.false in
    let f = fits in search rules

pub slice_bounds-store_clause-count : goal.slice_bounds-store_clause-count
slice_bounds-store_clause-count c =
    let three_words : length c.args.premises.words ≡ 3 = c.well_formed.1.1.1.0.1.1.0.1.0.1 in
    let fits : c.args.tally.words + 1 + (c.args.premises.n + length c.args.found.now / c.args.width) ≤ length c.args.list.now = put_room (counts_of c.args.tally) (clause c.args.premises three_words c.requires.two c.args.target c.requires) c.args.list.now _ c.writes.ensures c.if-not-writes.false in
    let f = fits in search rules

pub slice_bounds-store_clause-start : goal.slice_bounds-store_clause-start
slice_bounds-store_clause-start c =
    let three_words : length c.args.premises.words ≡ 3 = c.well_formed.1.1.1.0.1.1.0.1.0.1 in
    let fits : c.args.tally.words + 1 + (c.args.premises.n + length c.args.found.now / c.args.width) ≤ length c.args.list.now = put_room (counts_of c.args.tally) (clause c.args.premises three_words c.requires.two c.args.target c.requires) c.args.list.now _ c.writes.ensures c.if-not-writes.false in
    let f = fits in search rules

pub store_clause-requires : goal.store_clause-requires
store_clause-requires c =
    let three_words : length c.args.premises.words ≡ 3 = c.well_formed.1.1.1.0.1.1.0.1.0.1 in
    let many : Counted c.args.width c.args.found.now (length c.args.found.now / c.args.width) = found-counted c.args.premises three_words c.requires.two c.args.target c.requires refl in
    let fits : c.args.tally.words + 1 + (c.args.premises.n + length c.args.found.now / c.args.width) ≤ length c.args.list.now = put_room (counts_of c.args.tally) (clause c.args.premises three_words c.requires.two c.args.target c.requires) c.args.list.now _ c.writes.ensures c.if-not-writes.false in
    let f = fits in
    (many, c.requires.two, search rules)

pub counted-requires-2 : goal.counted-requires-2
counted-requires-2 c =
    let three_words : length c.args.premises.words ≡ 3 = c.well_formed.1.1.1.0.1.1.0.1.0.1 in
    let many : Counted c.args.width c.args.found.now (length c.args.found.now / c.args.width) = found-counted c.args.premises three_words c.requires.two c.args.target c.requires refl in
    let few = many.few in
    let two = c.requires.two in
    search rules

pub returns : goal.returns
returns c =
    let three_words : length c.args.premises.words ≡ 3 = c.well_formed.1.1.1.0.1.1.0.1.0.1 in
    let many : Counted c.args.width c.args.found.now (length c.args.found.now / c.args.width) = found-counted c.args.premises three_words c.requires.two c.args.target c.requires refl in
    let p = c.args.premises in
    let t = c.args.target in
    let o = c.requires in
    clause_put p three_words o.two t o _ c.left_out.ensures c.if-left_out.false
    (put_stored _ _ _ (clause-long p three_words o.two t o many) c.writes.ensures c.counted-2.ensures c.if-not-writes.false c.store_clause.ensures)
