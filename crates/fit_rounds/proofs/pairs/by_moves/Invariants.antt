-- `fit_rounds::pairs::by_moves` meets its contract. The invariant: what the records that are left do. Assumes nothing.
use mathlib.Core.Path.{◌≡◌}
use Prim.Native.Nat.{◌<◌}
use Rattle.std.specs.Slice.Iter.{chunks_exact_rest, chunks_exact_size}
use Rattle.fit_rounds.proofs.Passing.{Moving}
use Rattle.fit_rounds.proofs.pairs.by_moves.Given as goal

abbrev pub invariant-records : goal.invariant-records
invariant-records l = record {
  can_next : 0 < chunks_exact_size l.fields-iterator;
  size : chunks_exact_size l.fields-iterator ≡ 3;
  left : Moving l.kind l.section l.next l.n l.initial.rows l.rows (chunks_exact_rest l.fields-iterator);
}
