-- `sat_solve::solve` meets its contract. Assumes nothing.
use Rattle.sat_decide.proofs.Ends as laws
use Rattle.sat_solve.proofs.solve.Goals as goal

pub solve_scanned-requires : goal.solve_scanned-requires
solve_scanned-requires c =
    record { fresh = (c.requires, c.if-list-le65536.true, c.places-trail.ensures); pair_table = (c.pair_table-table.ensures, laws.first_rows (c.requires) c.args.budget c.own_rows.ensures) }

pub finish-requires : goal.finish-requires
finish-requires c =
    record { begun = laws.begins (c.requires) c.args.budget c.places-trail.ensures; pair_table = (c.pair_table-table.ensures, laws.first_rows (c.requires) c.args.budget c.own_rows.ensures) }
