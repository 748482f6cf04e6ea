-- `table_find::number_at` meets its contract. Assumes nothing.
use mathlib.Core.Path.{refl, sym, ap, ◌∙◌}
use native.Mathlib.Omega.{arith}
use lib.ListN.{take, drop}
use Rattle.table_find.specs.Keys.{key}
use Rattle.table_find.proofs.Keys.{next_byte, part_small}
use Rattle.table_find.proofs.number_at.Goals as goal

pub with_byte-requires : goal.with_byte-requires
with_byte-requires c =
    omega (arith, c.two_at.ensures, part_small c.args.section.now (λ i. (c.shared_slice_known-1.given i).fits) c.args.at 2 (omega arith))

pub returns-then-width-eq3 : goal.returns-then-width-eq3
returns-then-width-eq3 c =
    next_byte c.args.section.now c.args.at 2 c.two_at.ensures (omega (arith, c.requires)) refl c.with_byte.ensures
    ∙ ap (λ w. key (take w (drop c.args.at c.args.section.now))) (sym c.if-width-eq3.true)
