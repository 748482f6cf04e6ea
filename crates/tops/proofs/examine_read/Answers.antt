-- `tops::examine_read` meets its contract: the starts and the tops of a table that was read. Assumes nothing.
use mathlib.Core.Path.{refl, ap}
use Rattle.table_spec.proofs.Wider.{readable-wider}
use Rattle.tops_spec.specs.declared.TopWords.{TopWords}
use Rattle.tops.specs.Steps.{tops_found}
use Rattle.tops.proofs.examine_read.Goals as goal

pub tops_read-found-requires : goal.tops_read-found-requires
tops_read-found-requires c = (c.requires, refl)

pub invariant_of-result : goal.invariant_of-result
unfolding tops_found
invariant_of-result c = let h = c.requires in record {
  bytes_fit = λ i. (c.type_inv.table i).fits;
  readable = readable-wider _ _ h.known.readable;
  starts_known = h.known.starts;
  words_known = ap (λ (t : TopWords). t.words) c.tops_read-found.ensures;
  found_known = ap (λ (t : TopWords). t.found) c.tops_read-found.ensures;
}
