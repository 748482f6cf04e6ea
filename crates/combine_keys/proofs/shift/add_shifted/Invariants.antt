-- `combine_keys::shift::add_shifted` meets its contract: the keys of the records so far are added. Assumes nothing.
use Prim.Native.Nat.{ℕ, ◌+◌, ◌<◌}
use mathlib.Core.Path.{◌≡◌}
use mathlib.Core.List.{List, [], ◌∷◌, Memᴰ}
use Rattle.std.specs.Slice.Iter.{chunks_exact_rest, chunks_exact_size}
use Rattle.table_spec.specs.File.{records}
use Rattle.table_find.specs.Keys.{key}
use Rattle.combine_keys.proofs.Adding.{Adding}
use Rattle.combine_keys.proofs.shift.add_shifted.Given as goal

abbrev pub invariant-records : goal.invariant-records
invariant-records l = record {
  can_next : 0 < chunks_exact_size l.fields-iterator;
  size : chunks_exact_size l.fields-iterator ≡ l.width;
  among : (r : List ℕ) → Memᴰ r (records l.width (chunks_exact_rest l.fields-iterator)) → Memᴰ r (records l.width l.section);
  walk : Adding (λ r. (key r + l.by) ∷ []) (records l.width l.section) l.initial.keys l.count l.keys l.held (records l.width (chunks_exact_rest l.fields-iterator));
}
