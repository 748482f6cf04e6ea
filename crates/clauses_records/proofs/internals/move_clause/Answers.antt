-- `clauses_records::internals::move_clause` meets its contract. Assumes nothing.
use native.Mathlib.Omega.{arith}
use Rattle.clauses_records.proofs.Moving.{move_self, move_premised, move_other}
use Rattle.clauses_records.proofs.internals.move_clause.Goals as goal

pub returns-then-q-p : goal.returns-then-q-p
returns-then-q-p c = move_self _ _ _ _ _ _ c.if-q-p.true

pub block-found-requires : goal.block-found-requires
block-found-requires c =
    (omega arith, c.requires.0, c.requires.1, c.requires.2, c.requires.3)

pub matched-requires : goal.matched-requires
matched-requires c =
    move_premised c.args.section.now c.args.p c.args.a c.args.target c.args.q c.block-found.result.now c.block-found.ensures c.no_literals.ensures c.with_premise-premises.ensures c.requires.0

pub returns : goal.returns
returns c =
    move_other c.args.section.now c.args.p c.args.a c.args.target c.args.q c.block-found.result.now c.block-found.ensures c.no_literals.ensures c.with_premise-premises.ensures _ c.if-q-p.false c.matched.ensures
