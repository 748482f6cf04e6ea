-- `fit_worklist::push_all` meets its contract. The invariant: the rows hold tops only. Assumes nothing.
use mathlib.Core.Path.{◌≡◌}
use Prim.Native.Nat.{◌<◌}
use Rattle.std.specs.Slice.Iter.{chunks_exact_rest, chunks_exact_size}
use Rattle.fit_links.proofs.Quickly.{PushingOn}
use Rattle.fit_worklist.proofs.push_all.Given as goal

abbrev pub invariant-records : goal.invariant-records
invariant-records l = record {
  can_next : 0 < chunks_exact_size l.fields-iterator;
  size : chunks_exact_size l.fields-iterator ≡ 3;
  walk : PushingOn l.p l.b l.n l.calls l.pushes l.initial.rows l.rows (chunks_exact_rest l.fields-iterator);
}
