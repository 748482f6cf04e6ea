-- `cases::fill` meets its contract: the words from here on are still to be stored. Assumes nothing.
use mathlib.Core.Path.{◌∙◌}
use Prim.Native.Nat.{◌/◌, ◌<◌}
use native.Mathlib.Omega.{arith}
use lib.ListN.{length}
use Rattle.lists.proofs.Copying as laws
use Rattle.cases.proofs.Numbers.{words_long, words-all, words_end, word_of}
use Rattle.cases.proofs.fill.Goals as goal

pub returns-then-bytes-i : goal.returns-then-bytes-i
returns-then-bytes-i c = laws.write_all c.words.invariant (words_end c.args.bytes.now (length c.args.list.now) c.words.i c.if-bytes-i.true)

pub words-preserved : goal.words-preserved
words-preserved c =
    let b = c.args.bytes.now in
    let n = length c.args.list.now in
    let w = c.words.invariant in
    let h : c.words.i < n = omega (arith, c.words-test.true, laws.same_length w) in
    let k : c.words.i < length b / 2 = omega (arith, c.if-bytes-i.false) in
    rw (c.word_at.ensures.0 ∙ word_of b n c.words.i h k) (laws.write_on w (words-all b n c.words.i h k))

pub returns : goal.returns
returns c =
    let w = c.words.invariant in
    laws.write_all w (omega (arith, words_long c.args.bytes.now (length c.args.list.now), c.words-test.false, laws.same_length w))
