-- `tops::examined_known` meets its contract: the starts and the tops that it is lent, and the ones of these counted. Assumes nothing.
use mathlib.Core.Path.{◌∙◌, sym, ap}
use native.Mathlib.Omega.{arith}
use lib.ListN.{length}
use Rattle.lists.specs.Bits.{ones_over}
use Rattle.table_spec.proofs.Bytes.{read_well_formed}
use Rattle.table_spec.proofs.Wider.{readable-wider}
use Rattle.tops_spec.proofs.Count.{count_ones}
use Rattle.tops_spec.proofs.Exact.{length-words}
use Rattle.tops_spec.proofs.Formed.{bounded}
use Rattle.tops.proofs.Loops.{ones_sum, ones_whole}
use Rattle.tops.proofs.examined_known.Goals as goal

pub copy_from_slice-requires : goal.copy_from_slice-requires
copy_from_slice-requires c =
    let h = c.requires.0 in
    sym (ap length c.requires.1 ∙ length-words (bounded (read_well_formed h.limits _ h.known.readable)))

pub count_tops-found-requires : goal.count_tops-found-requires
count_tops-found-requires c = ones_whole c.copy_from_slice.new.self (omega (arith, c.copy_from_slice.ensures.len))

pub invariant_of-result : goal.invariant_of-result
invariant_of-result c =
    let h = c.requires.0 in
    let words = c.copy_from_slice.ensures.after ∙ c.requires.1 in
    record {
      bytes_fit = λ i. (c.type_inv.table i).fits;
      readable = readable-wider _ _ h.known.readable;
      starts_known = h.known.starts;
      words_known = words;
      found_known = c.count_tops-found.ensures ∙ ones_sum 64 _ ∙ ap (ones_over 64) words ∙ count_ones (bounded (read_well_formed h.limits _ h.known.readable)) 64 (omega arith);
    }
