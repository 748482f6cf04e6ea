-- `clauses_records::returns::return_clause` meets its contract. Assumes nothing.
use native.Mathlib.Omega.{arith}
use Rattle.clauses_records.proofs.Moving.{premise-more}
use Rattle.clauses_records.proofs.Walking.{equal_range_all}
use Rattle.clauses_records.proofs.Returning.{return_self, return_premised, return-other}
use Rattle.clauses_records.proofs.returns.return_clause.Goals as goal

pub returns-then-same_place : goal.returns-then-same_place
returns-then-same_place c = return_self _ _ _ _ _ c.same_place.ensures c.if-same_place.true

pub with_premise-premises-requires : goal.with_premise-premises-requires
with_premise-premises-requires c =
    omega (arith, premise-more c.no_literals.result c.args.x.from c.args.q c.with_premise.ensures, c.no_literals.ensures)

pub matched-requires : goal.matched-requires
matched-requires c =
    let s = c.args.found.now in
    return_premised s c.args.x c.args.q c.args.u s (equal_range_all c.requires) c.no_literals.ensures c.with_premise.ensures c.with_premise-premises.ensures c.requires.lent

pub returns : goal.returns
returns c =
    let s = c.args.found.now in
    return-other s c.args.x c.args.q c.args.u s (equal_range_all c.requires) c.no_literals.ensures c.with_premise.ensures c.with_premise-premises.ensures _ c.same_place.ensures c.if-same_place.false c.matched.ensures
