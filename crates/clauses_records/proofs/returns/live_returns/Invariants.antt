-- `clauses_records::returns::live_returns` meets its contract: the records so far have their clauses. Assumes nothing.
use mathlib.Core.Path.{◌≡◌}
use Prim.Native.Nat.{◌<◌}
use Rattle.table_spec.specs.File.{records}
use Rattle.clauses_emit.specs.Emit.{state}
use Rattle.clauses_records.specs.Returns.{live_record, return_clauses_by}
use Rattle.std.specs.Slice.Iter.{chunks_exact_rest, chunks_exact_size}
use Rattle.clauses_emit.proofs.Stepping.{Along}
use Rattle.clauses_records.proofs.Returning.{fields_of}
use Rattle.clauses_records.proofs.returns.live_returns.Given as goal

abbrev pub invariant-records : goal.invariant-records
invariant-records l = record {
  can_next : 0 < chunks_exact_size l.fields-iterator;
  size : chunks_exact_size l.fields-iterator ≡ 4;
  along : Along (λ r. live_record (records 4 l.section) l.tops l.count (fields_of r)) 4 l.section (return_clauses_by l.tops (records 4 l.section) l.count) (state l.initial.so_far l.initial.list) (chunks_exact_rest l.fields-iterator) (state l.so_far l.list);
}
