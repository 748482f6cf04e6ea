-- `read::distances_fit` meets its contract: the tests are those of the document, in its order. Assumes nothing.
use native.Mathlib.Omega.{arith}
use Rattle.std.proofs.lemmas.Grind.{common_steps}
use Rattle.read.proofs.Numbers.{distances}
use Rattle.read.proofs.distances_fit.Goals as goal

pub returns-then-calls-returns-eq0 : goal.returns-then-calls-returns-eq0
returns-then-calls-returns-eq0 c =
    let d = distances (record { at_end = c.requires; word_0 = c.word_at-symbols.ensures; word_1 = c.word_at-states.ensures; word_2 = c.word_at-internals.ensures; word_3 = c.word_at-calls.ensures; word_4 = c.word_at-returns.ensures }) in
    grind (arith, common_steps, d)

pub returns-else-calls-returns-eq0 : goal.returns-else-calls-returns-eq0
returns-else-calls-returns-eq0 c =
    let d = distances (record { at_end = c.requires; word_0 = c.word_at-symbols.ensures; word_1 = c.word_at-states.ensures; word_2 = c.word_at-internals.ensures; word_3 = c.word_at-calls.ensures; word_4 = c.word_at-returns.ensures }) in
    grind (arith, common_steps, d)
