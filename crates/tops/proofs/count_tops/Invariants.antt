-- `tops::count_tops` meets its contract: the ones of the words so far. Assumes nothing.
use Rattle.std.proofs.Common.{◌≡◌, take}
use Rattle.std.specs.List.{sum_by}
use Rattle.std.specs.Int.Count.{ones_in}
use Rattle.tops.proofs.count_tops.Given as goal

abbrev pub invariant-words : goal.invariant-words
invariant-words l = l.found ≡ sum_by (ones_in 64) (take l.word-index l.words)
