-- `tops::tops_of` meets its contract. Assumes nothing.
use mathlib.Core.Path.{◌∙◌}
use Rattle.tops.proofs.Loops.{ones_sum, ones_fit}
use Rattle.tops.proofs.Padded.{answer-made}
use Rattle.tops.proofs.tops_of.Goals as goal

pub count_tops-requires : goal.count_tops-requires
count_tops-requires c = ones_fit _ _ c.requires.0.few

pub returns : goal.returns
returns c = answer-made c.requires.0 c.words_of.ensures (c.count_tops.ensures ∙ ones_sum 64 _)
