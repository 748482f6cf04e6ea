-- `sat_literal::clauses::Clauses::next` meets its contract: the first clause is all there, and the rest is whole clauses. Assumes nothing.
use Rattle.std.proofs.Common.{rules, ◌<◌, length}
use native.Mathlib.Omega.{arith}
use Rattle.sat_literal.proofs.Walking.{first_inside, first_left}
use Rattle.sat_literal.proofs.clauses.ClausesIterator.next.Goals as goal

pub slice_bounds-self-count : goal.slice_bounds-self-count
slice_bounds-self-count c =
    let some : 0 < length c.args.self.now.rest.now = search rules in
    omega (arith, first_inside _ c.requires some, c.from-end.ensures)

pub slice_bounds-self-start : goal.slice_bounds-self-start
slice_bounds-self-start c =
    let some : 0 < length c.args.self.now.rest.now = search rules in
    let fits = first_inside _ c.requires some in
    omega (arith, fits, c.from-end.ensures)

pub slice_bounds-result-end : goal.slice_bounds-result-end
slice_bounds-result-end c =
    let some : 0 < length c.args.self.now.rest.now = search rules in
    let fits = first_inside _ c.requires some in
    omega (arith, fits, c.from-end.ensures)

pub returns-clause-goes : goal.returns-clause-goes
returns-clause-goes c =
    let some : 0 < length c.args.self.now.rest.now = search rules in
    let left = first_left _ c.requires some _ c.from-end.ensures in
    record { on = λ _. (left, tt, search (rules, some)); keeps = left; rests = λ _. search rules }
