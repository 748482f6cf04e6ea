-- `uses::lines::states_fit` meets its contract: the answer is that over the lines that are left. Assumes nothing.
use lib.Dec.{ltb}
use Rattle.std.specs.Slice.Iter.{chunks_exact_rest, chunks_exact_size}
use Rattle.lists.specs.Lists.{all}
use Rattle.table_spec.specs.File.{records}
use Rattle.table_spec.proofs.Chunks.{Left}
use Rattle.uses_spec.specs.Uses.{line_of}
use Rattle.uses.proofs.lines.states_fit.Given as goal

abbrev pub invariant-lines : goal.invariant-lines
invariant-lines l =
    let fit = all (λ r. ltb (line_of r).state l.n) in
    Left (fit (records 5 l.lines)) fit 5 (chunks_exact_size l.line-iterator) (chunks_exact_rest l.line-iterator)
