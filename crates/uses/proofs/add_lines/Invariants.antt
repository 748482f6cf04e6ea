-- `uses::add_lines` meets its contract. The loop's invariant: what the lines that are left add to the sums and the total as they are. Assumes nothing.
use Rattle.std.specs.Slice.Iter.{chunks_exact_rest, chunks_exact_size}
use Rattle.uses.proofs.Adding.{Adding}
use Rattle.uses.proofs.add_lines.Given as goal

abbrev pub invariant-lines : goal.invariant-lines
invariant-lines l = Adding l.map l.lines (chunks_exact_size l.line-iterator) (chunks_exact_rest l.line-iterator) l.sums l.total
