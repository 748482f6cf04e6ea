-- `sat_solve::turns_indexed` meets its contract. Assumes nothing.
use native.Mathlib.Omega.{arith}
use mathlib.Core.Path.{sym}
use lib.Seq.{length-take-le}
use Rattle.cnf.specs.Clauses.{clauses_in}
use Rattle.pairs.specs.Triangles.{triangles}
use Rattle.sat_trail.proofs.Working.{formed-part}
use Rattle.sat_passes.proofs.Attending.{to_cs}
use Rattle.sat_solve.proofs.Rooms as laws
use Rattle.sat_solve.proofs.turns_indexed.Goals as goal

pub index-requires : goal.index-requires
index-requires c =
    (laws.listed c.requires.list_value.0 (laws.short-list c.requires.list_value.1) (formed-part (clauses_in c.args.list.now) _ (to_cs _ (triangles c.args.n)) c.requires.rested.formed) c.requires.rested.most, laws.index-room c.requires.list_value.1, c.no_firsts-firsts.ensures)

pub count_literals-few-requires : goal.count_literals-few-requires
count_literals-few-requires c =
    let half = laws.few_clauses c.args.list.now c.args.n c.requires.list_value.0 c.requires.rested in
    record { list_value = (c.requires.list_value.0, formed-part (clauses_in c.args.list.now) _ (to_cs _ (triangles c.args.n)) (rw c.requires.rested.size c.requires.rested.formed), omega (arith, c.requires.rested.size, c.requires.rested.most)); list_len_bound = (laws.short-list c.requires.list_value.1, omega (arith, half, c.requires.list_value.1.words-room), c.requires.list_value.1.small) }

pub slice_bounds-turns-end-4 : goal.slice_bounds-turns-end-4
slice_bounds-turns-end-4 c =
    sym (length-take-le _ _ (omega (arith, c.count_literals-few.ensures.1, c.count_literals-few.ensures.0.room)))

pub slice_bounds-turns-end-6 : goal.slice_bounds-turns-end-6
slice_bounds-turns-end-6 c =
    let half = laws.few_clauses c.args.list.now c.args.n c.requires.list_value.0 c.requires.rested in
    sym (length-take-le _ _ (omega (arith, c.count_literals-few.ensures.1, half, c.requires.list_value.1.words-room, c.requires.list_value.1.same)))
