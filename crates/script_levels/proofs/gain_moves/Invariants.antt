-- `script_levels::gain_moves` meets its contract: what the records to come gain is still to be gained. Assumes nothing.
use mathlib.Core.Path.{◌≡◌}
use Prim.Native.Nat.{◌<◌}
use Rattle.std.specs.Slice.Iter.{chunks_exact_rest, chunks_exact_size}
use Rattle.script_levels.proofs.Stepping.{Running}
use Rattle.script_levels.proofs.gain_moves.Given as goal

abbrev pub invariant-records : goal.invariant-records
invariant-records l = record {
  can_next : 0 < chunks_exact_size l.fields-iterator;
  size : chunks_exact_size l.fields-iterator ≡ 3;
  left : Running (λ r. l.w) 2 3 l.found l.initial.words (chunks_exact_rest l.fields-iterator) l.words;
}
