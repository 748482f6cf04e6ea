-- `read::test_sections` meets its contract: the parts handed on are the file's sections. Assumes nothing.
use mathlib.Core.Path.{ap, ◌∙◌}
use native.Mathlib.Omega.{arith}
use Rattle.lists.specs.Lists.{first_failed}
use Rattle.refusals.specs.Refusals.{tested}
use Rattle.table_spec.specs.Reading.{table_tests}
use Rattle.read.proofs.Numbers as numbers
use Rattle.read.proofs.test_sections.Goals as goal

pub slice_bounds-test_contents-count : goal.slice_bounds-test_contents-count
slice_bounds-test_contents-count c =
    (numbers.follow _ _ _ (c.requires).0 (c.requires).1 (c.requires).2).symbols

pub slice_bounds-test_contents-start : goal.slice_bounds-test_contents-start
slice_bounds-test_contents-start c =
    (numbers.follow _ _ _ (c.requires).0 (c.requires).1 (c.requires).2).symbols

pub slice_bounds-test_contents-end : goal.slice_bounds-test_contents-end
slice_bounds-test_contents-end c =
    omega (arith, numbers.follow _ _ _ (c.requires).0 (c.requires).1 (c.requires).2)

pub slice_bounds-test_contents-count-2 : goal.slice_bounds-test_contents-count-2
slice_bounds-test_contents-count-2 c =
    (numbers.follow _ _ _ (c.requires).0 (c.requires).1 (c.requires).2).states

pub slice_bounds-test_contents-start-2 : goal.slice_bounds-test_contents-start-2
slice_bounds-test_contents-start-2 c =
    (numbers.follow _ _ _ (c.requires).0 (c.requires).1 (c.requires).2).states

pub slice_bounds-test_contents-end-2 : goal.slice_bounds-test_contents-end-2
slice_bounds-test_contents-end-2 c =
    omega (arith, numbers.follow _ _ _ (c.requires).0 (c.requires).1 (c.requires).2)

pub slice_bounds-test_contents-count-3 : goal.slice_bounds-test_contents-count-3
slice_bounds-test_contents-count-3 c =
    (numbers.follow _ _ _ (c.requires).0 (c.requires).1 (c.requires).2).internals

pub slice_bounds-test_contents-start-3 : goal.slice_bounds-test_contents-start-3
slice_bounds-test_contents-start-3 c =
    (numbers.follow _ _ _ (c.requires).0 (c.requires).1 (c.requires).2).internals

pub slice_bounds-test_contents-end-3 : goal.slice_bounds-test_contents-end-3
slice_bounds-test_contents-end-3 c =
    omega (arith, numbers.follow _ _ _ (c.requires).0 (c.requires).1 (c.requires).2)

pub slice_bounds-test_contents-count-4 : goal.slice_bounds-test_contents-count-4
slice_bounds-test_contents-count-4 c =
    (numbers.follow _ _ _ (c.requires).0 (c.requires).1 (c.requires).2).calls

pub slice_bounds-test_contents-start-4 : goal.slice_bounds-test_contents-start-4
slice_bounds-test_contents-start-4 c =
    (numbers.follow _ _ _ (c.requires).0 (c.requires).1 (c.requires).2).calls

pub slice_bounds-test_contents-end-4 : goal.slice_bounds-test_contents-end-4
slice_bounds-test_contents-end-4 c =
    omega (arith, numbers.follow _ _ _ (c.requires).0 (c.requires).1 (c.requires).2)

pub slice_bounds-test_contents-count-5 : goal.slice_bounds-test_contents-count-5
slice_bounds-test_contents-count-5 c =
    (numbers.follow _ _ _ (c.requires).0 (c.requires).1 (c.requires).2).returns

pub slice_bounds-test_contents-start-5 : goal.slice_bounds-test_contents-start-5
slice_bounds-test_contents-start-5 c =
    (numbers.follow _ _ _ (c.requires).0 (c.requires).1 (c.requires).2).returns

pub slice_bounds-test_contents-end-5 : goal.slice_bounds-test_contents-end-5
slice_bounds-test_contents-end-5 c =
    omega (arith, numbers.follow _ _ _ (c.requires).0 (c.requires).1 (c.requires).2)

pub returns : goal.returns
returns c =
    c.test_contents.ensures ∙ ap (λ t. tested (first_failed (table_tests c.args.limits t))) (numbers.sections_are _ _ _ (c.requires).0 (c.requires).1 (c.requires).2 (c.requires).3)
