-- `clauses_targets::left_out` meets its contract: whether a target leaves the clause out, the targets to come tell. Assumes nothing.
use mathlib.Core.Path.{◌≡◌}
use Prim.Native.Nat.{◌<◌}
use lib.ListN.{take}
use Rattle.lists.specs.Lists.{any}
use Rattle.std.specs.Slice.Iter.{chunks_exact_rest, chunks_exact_size}
use Rattle.clauses_emit.specs.Emit.{leaves, last_bytes}
use Rattle.clauses_targets.proofs.left_out.Given as goal

abbrev pub invariant-targets : goal.invariant-targets
invariant-targets l = record {
  can_next : 0 < chunks_exact_size l.fields-iterator;
  size : chunks_exact_size l.fields-iterator ≡ l.width;
  left : any (leaves (take l.n l.words) l.target) (last_bytes l.width l.found) ≡ any (leaves (take l.n l.words) l.target) (last_bytes l.width (chunks_exact_rest l.fields-iterator));
}
