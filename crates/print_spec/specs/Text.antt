-- What the program prints, as ASCII (document 01, "Check and quotient"; document 02, (vi) and (viii)). Assumes nothing.
use Rattle.std.specs.Prelude.{Result, Ok, Err, List, [], ◌++◌, ℕ, take, replicate}
use Rattle.table_spec.specs.File.{table_of}
use Rattle.table_spec.specs.Language.{count}
use Rattle.refusals.specs.declared.Refusal.{Refusal}
use Rattle.refusals.specs.Refusals.{number_of}
use Rattle.records_spec.specs.declared.Counts.{Counts}
use Rattle.records_spec.specs.Fates.{counts_of}
use Rattle.reduce_spec.specs.declared.Reduction.{Reduction}
use Rattle.reduce_spec.specs.Reduce.{Reduced, reduce_of}
use Rattle.reduce_spec.specs.Demands.{map_written}
use Rattle.print_spec.specs.Program.{widest}
use Rattle.print_spec.specs.Lines.{map_text, table_text, counts_text, records_text, refused_text}

-- the fourth line, of an answer
abbrev pub recorded_text : Result Counts Refusal → List ℕ
recorded_text (Ok r) = records_text r.all r.kept r.folded r.dead
recorded_text (Err r) = []

-- .. of a table under a map
abbrev pub going_text : List ℕ → List ℕ → List ℕ
going_text b m = recorded_text (Ok (counts_of (table_of b) m))

-- what is printed of a reduction of b, by its answer, the map buffer and the output: four lines on every delivery, the fourth under the map delivered
abbrev pub reduction_text : List ℕ → Result Reduction Refusal → List ℕ → List ℕ → List ℕ
reduction_text b (Ok r) map out =
    counts_text (count (table_of b)) r.classes r.guesses r.words r.joined r.ceiling r.spent ++ map_text (map_written b map) ++ table_text (take r.length out) ++ going_text b (map_written b map)
reduction_text b (Err r) map out = refused_text (number_of r)

-- what the program prints for the bytes that it reads: "budget 100,000, 32,768 clause words"
abbrev pub reduced_text : List ℕ → Reduced → List ℕ
reduced_text b r = reduction_text b r.answer r.map r.out

unfoldable pub printed : List ℕ → List ℕ
printed b = reduced_text b (reduce_of widest b 100000 (replicate 32768 0) (replicate 40 0) (replicate 22644 0))
