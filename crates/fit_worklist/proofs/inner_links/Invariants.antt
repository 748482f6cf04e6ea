-- `fit_worklist::inner_links` meets its contract. The invariant: the rows hold links only. Assumes nothing.
use mathlib.Core.Path.{◌≡◌}
use Prim.Native.Nat.{◌<◌}
use Rattle.std.specs.Slice.Iter.{chunks_exact_rest, chunks_exact_size}
use Rattle.fit_links.proofs.Quickly.{AllLinking}
use Rattle.fit_worklist.proofs.inner_links.Given as goal

abbrev pub invariant-records : goal.invariant-records
invariant-records l = record {
  can_next : 0 < chunks_exact_size l.fields-iterator;
  size : chunks_exact_size l.fields-iterator ≡ 3;
  walk : AllLinking l.n l.internals l.moves l.initial.links l.links (chunks_exact_rest l.fields-iterator);
}
