-- `table_index::starts_of` meets its contract. Assumes nothing.
use Rattle.table_spec.specs.File.{records}
use Rattle.table_index.proofs.Index.{Indexing}
use Rattle.table_index.proofs.starts_of.Given as goal

abbrev pub invariant-records : goal.invariant-records
invariant-records l = Indexing (records l.width l.section) l.starts l.x l.k
