-- `read_contents::records_fit` meets its contract: the answer is that over the records that are left. Assumes nothing.
use Rattle.std.proofs.Common.{[]}
use Rattle.std.specs.Slice.Iter.{chunks_exact_rest, chunks_exact_size}
use Rattle.lists.specs.Lists.{all}
use Rattle.table_spec.specs.File.{records}
use Rattle.table_spec.specs.Reading.{record_fits}
use Rattle.table_spec.proofs.Chunks.{Left}
use Rattle.table_view.specs.Sections.{sectioned}
use Rattle.read_contents.proofs.records_fit.Given as goal

abbrev pub invariant-records : goal.invariant-records
invariant-records l =
    let fits = all (record_fits (sectioned 0 l.symbols l.states [] [] []) l.kind) in
    Left (fits (records l.width l.section)) fits l.width (chunks_exact_size l.fields-iterator) (chunks_exact_rest l.fields-iterator)
