-- `check_matching::reaches` meets its contract: the answer is that over the records of the key that are left. Assumes nothing.
use Prim.Native.Nat.{◌-◌}
use Rattle.std.specs.Slice.Iter.{chunks_exact_rest, chunks_exact_size}
use Rattle.lists.specs.Lists.{any}
use Rattle.table_spec.specs.File.{records}
use Rattle.table_spec.proofs.Chunks.{Left}
use Rattle.check_matching.proofs.Reaching.{goes}
use Rattle.check_matching.proofs.reaches.Given as goal

abbrev pub invariant-records : goal.invariant-records
invariant-records l =
    let some = any (goes l.map l.target (l.width - 1)) in
    Left (some (records l.width (chunks_exact_rest l.initial.fields-iterator))) some l.width (chunks_exact_size l.fields-iterator) (chunks_exact_rest l.fields-iterator)
