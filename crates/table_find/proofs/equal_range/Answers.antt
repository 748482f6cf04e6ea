-- `table_find::equal_range` meets its contract. Assumes nothing.
use native.Mathlib.Omega.{arith}
use Rattle.table_find.proofs.Keys.{key-small}
use Rattle.table_find.proofs.Spanning.{Span, found}
use Rattle.table_find.proofs.equal_range.Goals as goal

pub returns-then-wanted-gt16777215 : goal.returns-then-wanted-gt16777215
returns-then-wanted-gt16777215 c = λ k d a. absurd (omega (arith, key-small d, c.if-wanted-gt16777215.true))

pub returns : goal.returns
returns c =
    let spanned : Span c.args.width c.args.section.now c.args.wanted c.first_at-from.result c.last_at-to.result = record { some-width = c.if-width-lt3.false; ordered = c.last_at-to.ensures.within.0; within = c.last_at-to.ensures.within.1; first = c.first_at-from.ensures.first; last = c.last_at-to.ensures.last } in
    found spanned
