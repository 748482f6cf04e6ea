-- `fit_returns::pop_over` meets its contract. The invariant: the rows hold tops and links only. Assumes nothing.
use mathlib.Core.Path.{◌≡◌}
use Prim.Native.Nat.{◌<◌}
use Rattle.std.specs.Slice.Iter.{chunks_exact_rest, chunks_exact_size}
use Rattle.fit_links.proofs.Quickly.{PoppingOver}
use Rattle.fit_returns.proofs.pop_over.Given as goal

abbrev pub invariant-records : goal.invariant-records
invariant-records l = record {
  can_next : 0 < chunks_exact_size l.fields-iterator;
  size : chunks_exact_size l.fields-iterator ≡ 4;
  walk : PoppingOver l.p l.b l.y l.n l.returns l.pops l.initial.rows l.initial.links l.rows l.links (chunks_exact_rest l.fields-iterator);
}
