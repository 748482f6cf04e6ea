-- `combine_keys::push::add_row` meets its contract: the keys of the records so far are added. Assumes nothing.
use Prim.Native.Nat.{◌+◌, ◌-◌, ◌*◌, ◌<◌}
use mathlib.Core.Path.{◌≡◌}
use mathlib.Core.List.{[], ◌∷◌}
use lib.ListN.{get_or}
use Rattle.std.specs.Slice.Iter.{chunks_exact_rest, chunks_exact_size}
use Rattle.table_spec.specs.File.{records}
use Rattle.combine_keys.proofs.Adding.{Adding}
use Rattle.combine_keys.proofs.push.add_row.Given as goal

abbrev pub invariant-records : goal.invariant-records
invariant-records l = record {
  can_next : 0 < chunks_exact_size l.fields-iterator;
  size : chunks_exact_size l.fields-iterator ≡ l.width;
  walk : Adding (λ r. (l.prefix * 256 + (l.base + get_or r (l.width - 1) 0)) ∷ []) (records l.width l.section) l.initial.keys l.count l.keys l.held (records l.width (chunks_exact_rest l.fields-iterator));
}
