-- `check_matching::has_top` meets its contract: there is no word past the end, and no bit past 63. Assumes nothing.
use Rattle.check_matching.proofs.Matched.{past_words, past-bits}
use Rattle.lists.specs.Bits.{has, has_bit}
use borrow.Author.Rules.{rules}
use Rattle.check_matching.proofs.has_top.Goals as goal

pub returns-then-words-q : goal.returns-then-words-q
returns-then-words-q c = past_words _ _ _ c.if-words-q.true

pub returns-then-x-gt63 : goal.returns-then-x-gt63
returns-then-x-gt63 c = past-bits _ _ _ (c.shared_slice_known-1.given c.args.q).fits c.if-x-gt63.true

pub returns : goal.returns
unfolding has has_bit
returns c = search rules
