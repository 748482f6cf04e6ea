-- `sat_solve::solve_scanned` meets its contract: what the first pass leaves of the list has the outcome of the list. Assumes nothing.
use Rattle.std.proofs.Common.{refl}
use native.Mathlib.Omega.{arith}
use mathlib.Core.Path.{sym}
use Rattle.sat_decide.proofs.Ends as laws
use borrow.Author.Rules.{rules}
use Rattle.sat_solve.proofs.solve_scanned.Goals as goal

pub scan_clauses-scanned-requires : goal.scan_clauses-scanned-requires
scan_clauses-scanned-requires c =
    record { list_value = (c.requires.fresh.0.all_there, λ _. c.requires.fresh.1); ready = laws.list-ready c.requires.fresh.0 c.args.budget c.requires.fresh.2; pair_table = c.requires.pair_table }

pub slice_bounds-simplify-end : goal.slice_bounds-simplify-end
slice_bounds-simplify-end c = laws.prefix_long _ c.if-s-le4096.true (search rules)

pub slice_bounds-simplify-end-then-s-le4096-2 : goal.slice_bounds-simplify-end-then-s-le4096-2
slice_bounds-simplify-end-then-s-le4096-2 c =
    laws.prefix_long {n = 780} _ (omega (arith, laws.sifted_count c.requires.fresh.0 c.args.budget c.requires.fresh.2 c.in-Ok.ensures.sifts, laws.sifted_size c.requires.fresh.0 c.args.budget c.requires.fresh.2 c.in-Ok.ensures.sifts, c.requires.fresh.0.most)) (sym (laws.sifted_long c.requires.fresh.0 c.args.budget c.requires.fresh.2 c.in-Ok.ensures.sifts))

pub simplify-requires : goal.simplify-requires
simplify-requires c =
    laws.lightens c.requires.fresh.0 c.args.budget c.requires.fresh.2 c.in-Ok.ensures.sifts refl (search rules)

pub slice_bounds-finish-end : goal.slice_bounds-finish-end
slice_bounds-finish-end c = laws.prefix_long _ c.in-Some.ensures.0 (search rules)

pub finish-requires : goal.finish-requires
finish-requires c =
    record { begun = laws.left_begins c.requires.fresh.0 c.args.budget c.requires.fresh.2 c.in-Ok.ensures.sifts refl (omega (arith, c.if-s-le4096.true)) c.in-Some.ensures.1; pair_table = (c.requires.pair_table.0, c.in-Ok.ensures.rows) }

pub returns-in-Some : goal.returns-in-Some
returns-in-Some c =
    laws.left-outcome c.requires.fresh.0 c.args.budget c.requires.fresh.2 c.in-Ok.ensures.sifts refl (omega (arith, c.if-s-le4096.true)) c.in-Some.ensures.1 c.finish.result.ending _ c.finish.result.ceiling c.finish.ensures

pub finish-requires-2 : goal.finish-requires-2
finish-requires-2 c =
    record { begun = laws.sifted_begins c.requires.fresh.0 c.args.budget c.requires.fresh.2 c.in-Ok.ensures.sifts; pair_table = (c.requires.pair_table.0, c.in-Ok.ensures.rows) }

pub returns : goal.returns
returns c =
    rw (laws.sifted_size c.requires.fresh.0 c.args.budget c.requires.fresh.2 c.in-Ok.ensures.sifts) at c.finish-2.ensures

pub returns-in_default : goal.returns-in_default
returns-in_default c =
    laws.sifted_absent c.requires.fresh.0 c.args.budget c.requires.fresh.2 c.in_default.ensures.sifts refl 0
