-- `cases::fill`: the words from here on are still to be stored. Assumes nothing.
use Rattle.std.proofs.Common.{length, take}
use Rattle.lists.proofs.Copying.{Writing}
use Rattle.cases.specs.Numbers.{words_in}
use Rattle.cases.proofs.fill.Given as goal

abbrev pub invariant-words : goal.invariant-words
invariant-words l = Writing (take (length l.initial.list) (words_in l.bytes)) l.initial.list l.list l.i
