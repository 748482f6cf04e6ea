-- `fit_compare::choice::one_target` meets its contract: no two neighbours so far differ in their target alone. Assumes nothing.
use mathlib.Core.Path.{◌≡◌}
use Prim.Native.Nat.{◌<◌}
use Rattle.std.specs.Slice.Iter.{chunks_exact_rest, chunks_exact_size}
use Rattle.fit_compare.proofs.Choosing.{Neighbouring}
use Rattle.fit_compare.proofs.choice.one_target.Given as goal

abbrev pub invariant-records : goal.invariant-records
invariant-records l = record {
  can_next : 0 < chunks_exact_size l.fields-iterator;
  size : chunks_exact_size l.fields-iterator ≡ l.width;
  walk : Neighbouring l.width l.section l.last (chunks_exact_rest l.fields-iterator);
}
