-- `clauses_records::internals::moves` meets its contract: the records so far have their clauses. Assumes nothing.
use mathlib.Core.Path.{◌≡◌}
use Prim.Native.Nat.{◌<◌}
use lib.ListN.{get_or}
use Rattle.lists.specs.Lists.{concat_map, upto}
use Rattle.table_spec.specs.File.{records}
use Rattle.clauses_spec.specs.Clauses.{move_clause, move_clauses}
use Rattle.clauses_emit.specs.Emit.{state}
use Rattle.std.specs.Slice.Iter.{chunks_exact_rest, chunks_exact_size}
use Rattle.clauses_emit.proofs.Stepping.{Along}
use Rattle.clauses_records.proofs.internals.moves.Given as goal

abbrev pub invariant-records : goal.invariant-records
invariant-records l = record {
  can_next : 0 < chunks_exact_size l.fields-iterator;
  size : chunks_exact_size l.fields-iterator ≡ 3;
  along : Along (λ r. concat_map (λ q. move_clause (records 3 l.section) (get_or r 0 0) (get_or r 1 0) (get_or r 2 0) q) (upto l.count)) 3 l.section (move_clauses (records 3 l.section) l.count) (state l.initial.so_far l.initial.list) (chunks_exact_rest l.fields-iterator) (state l.so_far l.list);
}
