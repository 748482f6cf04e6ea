-- `read::starts_at` meets its contract: no distance leads before the file. Assumes nothing.
use native.Mathlib.Omega.{arith}
use Rattle.read.proofs.Numbers as numbers
use Rattle.read.proofs.starts_at.Goals as goal

pub overflow_sub-result : goal.overflow_sub-result
overflow_sub-result c =
    omega (arith, c.word_at.ensures, (numbers.within _ _ (c.requires).0 (c.requires).1).within_0)

pub overflow_sub-result-2 : goal.overflow_sub-result-2
overflow_sub-result-2 c =
    omega (arith, c.word_at-2.ensures, (numbers.within _ _ (c.requires).0 (c.requires).1).within_1)

pub overflow_sub-result-3 : goal.overflow_sub-result-3
overflow_sub-result-3 c =
    omega (arith, c.word_at-3.ensures, (numbers.within _ _ (c.requires).0 (c.requires).1).within_2)

pub overflow_sub-result-4 : goal.overflow_sub-result-4
overflow_sub-result-4 c =
    omega (arith, c.word_at-4.ensures, (numbers.within _ _ (c.requires).0 (c.requires).1).within_3)

pub overflow_sub-result-5 : goal.overflow_sub-result-5
overflow_sub-result-5 c =
    omega (arith, c.word_at-5.ensures, (numbers.within _ _ (c.requires).0 (c.requires).1).within_4)

pub returns : goal.returns
returns c =
    numbers.starts-are (record { at_end = c.requires.0; word_0 = c.word_at.ensures; word_1 = c.word_at-2.ensures; word_2 = c.word_at-3.ensures; word_3 = c.word_at-4.ensures; word_4 = c.word_at-5.ensures })
