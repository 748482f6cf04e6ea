-- `table_find::four_at` meets its contract. Assumes nothing.
use mathlib.Core.Path.{◌≡◌, refl}
use native.Mathlib.Omega.{arith}
use lib.ListN.{take, drop}
use Rattle.table_find.specs.Keys.{key}
use Rattle.table_find.proofs.Keys.{next_byte, part_small}
use Rattle.table_find.proofs.four_at.Goals as goal

pub with_byte-requires : goal.with_byte-requires
with_byte-requires c =
    omega (arith, c.two_at.ensures, part_small c.args.section.now (λ i. (c.shared_slice_known-1.given i).fits) c.args.at 2 (omega arith))

pub with_byte-requires-2 : goal.with_byte-requires-2
with_byte-requires-2 c =
    let three : c.with_byte.result ≡ key (take 3 (drop c.args.at c.args.section.now)) = next_byte c.args.section.now c.args.at 2 c.two_at.ensures (omega (arith, c.requires)) refl c.with_byte.ensures in
    omega (arith, three, part_small c.args.section.now (λ i. (c.shared_slice_known-1.given i).fits) c.args.at 3 (omega arith))

pub returns : goal.returns
returns c =
    let three : c.with_byte.result ≡ key (take 3 (drop c.args.at c.args.section.now)) = next_byte c.args.section.now c.args.at 2 c.two_at.ensures (omega (arith, c.requires)) refl c.with_byte.ensures in
    next_byte c.args.section.now c.args.at 3 three c.requires refl c.with_byte-2.ensures
