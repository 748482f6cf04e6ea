-- `fit_rounds::pairs::by_returns` meets its contract. The invariant: what the records that are left do. Assumes nothing.
use mathlib.Core.Path.{◌≡◌}
use Prim.Native.Nat.{◌<◌}
use Rattle.std.specs.Slice.Iter.{chunks_exact_rest, chunks_exact_size}
use Rattle.fit_rounds.proofs.Passing.{Returning}
use Rattle.fit_rounds.proofs.pairs.by_returns.Given as goal

abbrev pub invariant-records : goal.invariant-records
invariant-records l = record {
  can_next : 0 < chunks_exact_size l.fields-iterator;
  size : chunks_exact_size l.fields-iterator ≡ 4;
  left : Returning l.section l.next l.n l.initial.rows l.rows (chunks_exact_rest l.fields-iterator);
}
