-- What the functions of src/ are stated with: the marks over the parts of a table. Assumes nothing.
use Rattle.std.specs.Prelude.{true, false, Ok, Err, List, ◌++◌, ℕ, length, leb}
use Rattle.lists.specs.Lists.{over}
use Rattle.table_spec.specs.File.{records}
use Rattle.table_view.specs.declared.Sections.{Sections}
use Rattle.check_matching.specs.Matching.{kept}
use Rattle.refusals.specs.declared.Refusal.TheVariants.{OutputLength}
use Rattle.records_spec.specs.Fates.{kept_mark, folded_mark, dead_mark, section_fates, having, RecordsDone}
use Rattle.records_fates.specs.Marks.{Fitting}

-- the marks of internals, calls and returns
abbrev pub parted_fates : List ℕ → List ℕ → List ℕ → List ℕ → List ℕ → List ℕ
parted_fates internals calls returns f m =
    section_fates (kept f) m (records 3 internals) ++ (section_fates (kept f) m (records 3 calls) ++ section_fates (kept f) m (records 4 returns))

-- the answer and the output of these marks: "21 under N bytes"
unfoldable pub told_for : List ℕ → List ℕ → RecordsDone
told_for marks out = elim (leb (length marks) (length out)) [
  | true ↦ record { answer = Ok (record { all = length marks; kept = having kept_mark marks; folded = having folded_mark marks; dead = having dead_mark marks }); out = over marks out }
  | false ↦ record { answer = Err OutputLength; out = out }
]

-- the parts of a table that was read, under a map that the check accepts
pub record FittingParts (internals calls returns m : List ℕ) : Type 0 where
  pub of_internals : Fitting 3 internals m
  pub of_calls : Fitting 3 calls m
  pub of_returns : Fitting 4 returns m

-- the same of the sections of a table
abbrev pub FittingSections : Sections → List ℕ → Type 0
FittingSections s = FittingParts s.internals.now s.calls.now s.returns.now

abbrev pub section_marks : Sections → List ℕ → List ℕ → List ℕ
section_marks s = parted_fates s.internals.now s.calls.now s.returns.now
