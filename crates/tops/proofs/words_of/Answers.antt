-- `tops::words_of` meets its contract. Assumes nothing.
use Rattle.tops.proofs.Padded.{words-made}
use Rattle.tops.proofs.Sums.{start_small}
use Rattle.tops.proofs.words_of.Goals as goal

pub fixpoint-requires : goal.fixpoint-requires
fixpoint-requires c =
    let p = c.requires.0 in (p, start_small _ p.few c.start_words.ensures)

pub returns : goal.returns
returns c =
    words-made c.requires.0 c.start_words.ensures c.fixpoint.ensures
