-- `records_fates::place_of` meets its contract: the place is in the room. Assumes nothing.
use mathlib.Core.Path.{◌∙◌}
use Prim.Native.Nat.{◌-◌, ◌+◌, ◌*◌}
use native.Mathlib.Omega.{arith}
use lib.ListN.{get_or, length}
use Rattle.records_fates.specs.Marks.{place_of}
use Rattle.records_fates.proofs.place_of.Goals as goal

pub overflow_add-result : goal.overflow_add-result
overflow_add-result c =
    omega (arith, c.from.ensures, (c.from-under.ensures ∙ c.class_at.ensures), c.requires.symbol, c.requires.class (get_or c.args.fields.now 2 0))

pub overflow_mul-result-2 : goal.overflow_mul-result-2
overflow_mul-result-2 c =
    omega (arith, c.from.ensures, (c.from-under.ensures ∙ c.class_at.ensures), c.requires.symbol, c.requires.class (get_or c.args.fields.now 2 0))

pub overflow_add-result-2 : goal.overflow_add-result-2
overflow_add-result-2 c =
    omega (arith, c.from.ensures, (c.from-under.ensures ∙ c.class_at.ensures), (c.from-to.ensures ∙ c.class_at-2.ensures), c.requires.symbol, c.requires.class (get_or c.args.fields.now 2 0), c.requires.class (get_or c.args.fields.now (length c.args.fields.now - 1) 0))

pub returns : goal.returns
unfolding place_of
returns c =
    ((λ j. (c.from.ensures j * 40 + (c.from-under.ensures ∙ c.class_at.ensures) j) * 40 + (c.from-to.ensures ∙ c.class_at-2.ensures) j), omega (arith, c.from.ensures, (c.from-under.ensures ∙ c.class_at.ensures), (c.from-to.ensures ∙ c.class_at-2.ensures), c.requires.symbol, c.requires.class (get_or c.args.fields.now 2 0), c.requires.class (get_or c.args.fields.now (length c.args.fields.now - 1) 0)))
