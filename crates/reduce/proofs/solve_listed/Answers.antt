-- `reduce::solve_listed` meets its contract: the search over the list and the classes, then what is made of the trial held. Assumes nothing.
use mathlib.Core.Path.{sym, ap, ◌∙◌}
use lib.ListN.{length}
use Rattle.sat_solve.proofs.Prefixes.{prefix_length, prefix_room, prefix_size}
use Rattle.check_map.proofs.Checking.{known_of}
use Rattle.reduce.proofs.Stages as laws
use borrow.Author.Rules.{rules}
use Rattle.reduce.proofs.solve_listed.Goals as goal

pub slice_bounds-values-end : goal.slice_bounds-values-end
slice_bounds-values-end c =
    let solvable : laws.Solvable c.args.examined.now.bytes.now c.args.list.now c.args.n = laws.solvable (known_of c.args.examined.now) c.requires.n_within.0 c.requires.list_value in
    let room = laws.room solvable c.pairs_of-variables.ensures c.none_set-values.ensures in
    search rules

pub slice_bounds-solve-end : goal.slice_bounds-solve-end
slice_bounds-solve-end c =
    let solvable : laws.Solvable c.args.examined.now.bytes.now c.args.list.now c.args.n = laws.solvable (known_of c.args.examined.now) c.requires.n_within.0 c.requires.list_value in
    sym (prefix_length _ (laws.room solvable c.pairs_of-variables.ensures c.none_set-values.ensures) c.none_set-values.ensures)

pub solve-end-requires : goal.solve-end-requires
solve-end-requires c =
    let solvable : laws.Solvable c.args.examined.now.bytes.now c.args.list.now c.args.n = laws.solvable (known_of c.args.examined.now) c.requires.n_within.0 c.requires.list_value in
    laws.fresh solvable (laws.part_none solvable c.pairs_of-variables.ensures c.none_set-values.ensures)

pub returns-in_default : goal.returns-in_default
returns-in_default c =
    let solvable : laws.Solvable c.args.examined.now.bytes.now c.args.list.now c.args.n = laws.solvable (known_of c.args.examined.now) c.requires.n_within.0 c.requires.list_value in
    λ L readable before. laws.was_absent solvable c.pairs_of-variables.ensures c.none_set-values.ensures _ c.solve-end.result.ending c.solve-end.result.ceiling c.solve-end.new.values c.solve-end.auto.values c.solve-end.ensures L before _ _ c.in_default.ensures

pub slice_bounds-values-end-2 : goal.slice_bounds-values-end-2
slice_bounds-values-end-2 c =
    let solvable : laws.Solvable c.args.examined.now.bytes.now c.args.list.now c.args.n = laws.solvable (known_of c.args.examined.now) c.requires.n_within.0 c.requires.list_value in
    prefix_room _ (laws.room solvable c.pairs_of-variables.ensures c.none_set-values.ensures) c.none_set-values.ensures c.solve-end.new.values c.solve-end.auto.values

pub slice_bounds-deliver_held-end : goal.slice_bounds-deliver_held-end
slice_bounds-deliver_held-end c =
    let solvable : laws.Solvable c.args.examined.now.bytes.now c.args.list.now c.args.n = laws.solvable (known_of c.args.examined.now) c.requires.n_within.0 c.requires.list_value in
    sym (prefix_size _ (laws.room solvable c.pairs_of-variables.ensures c.none_set-values.ensures) c.none_set-values.ensures c.solve-end.new.values c.solve-end.auto.values)

pub deliver_held-requires : goal.deliver_held-requires
deliver_held-requires c =
    let solvable : laws.Solvable c.args.examined.now.bytes.now c.args.list.now c.args.n = laws.solvable (known_of c.args.examined.now) c.requires.n_within.0 c.requires.list_value in
    record { n_within = (laws.few solvable, c.requires.n_within.1); words_of_list = ap length c.requires.list_value; held_for = laws.was_held solvable c.pairs_of-variables.ensures c.none_set-values.ensures _ c.solve-end.result.ending c.solve-end.result.ceiling c.solve-end.new.values c.solve-end.auto.values c.solve-end.ensures c.in-Some.made c.in-Some.ensures }

pub returns : goal.returns
returns c =
    let solvable : laws.Solvable c.args.examined.now.bytes.now c.args.list.now c.args.n = laws.solvable (known_of c.args.examined.now) c.requires.n_within.0 c.requires.list_value in
    λ L readable before. c.deliver_held.ensures L readable before ∙ laws.was_delivered solvable c.pairs_of-variables.ensures c.none_set-values.ensures _ c.solve-end.result.ending c.solve-end.result.ceiling c.solve-end.new.values c.solve-end.auto.values c.solve-end.ensures L before _ _ c.in-Some.made c.in-Some.ensures
