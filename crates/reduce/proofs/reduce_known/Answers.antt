-- `reduce::reduce_known` meets its contract: the clauses, then a refusal or what the search leads to. Assumes nothing.
use mathlib.Core.Path.{refl, sym}
use native.Mathlib.Omega.{arith}
use lib.Seq.{length-take-le}
use Rattle.refusals.proofs.Numbers.{passed_up}
use Rattle.reduce.proofs.Stages as laws
use Rattle.reduce.proofs.reduce_known.Goals as goal

pub returns-in_err-listed : goal.returns-in_err-listed
returns-in_err-listed c =
    let b = c.args.examined.now.bytes.now in
    let list = c.args.list.now in
    λ L readable. laws.list_refused b list c.in_err-listed.ensures L c.args.budget c.args.map.now c.args.out.now readable (omega (arith, c.requires.0, c.requires.1)) (passed_up c.from_residual.ensures) refl

pub slice_bounds-solve_listed-end : goal.slice_bounds-solve_listed-end
slice_bounds-solve_listed-end c = laws.list-room c.args.examined.now.bytes.now c.args.list.now c.in_ok-listed.ensures refl

pub slice_bounds-solve_listed-end-2 : goal.slice_bounds-solve_listed-end-2
slice_bounds-solve_listed-end-2 c = sym (length-take-le _ _ (laws.list-room c.args.examined.now.bytes.now c.args.list.now c.in_ok-listed.ensures refl))

pub solve_listed-requires : goal.solve_listed-requires
solve_listed-requires c = record { n_within = c.requires; list_value = laws.list-there c.args.examined.now.bytes.now c.args.list.now c.in_ok-listed.ensures refl }

pub returns : goal.returns
returns c =
    let b = c.args.examined.now.bytes.now in
    let list = c.args.list.now in
    λ L readable. laws.list-solved b list c.in_ok-listed.ensures L c.args.budget c.args.map.now c.args.out.now readable (omega (arith, c.requires.0, c.requires.1)) refl (c.solve_listed.ensures L readable)
