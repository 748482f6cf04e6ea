-- Where the records went (document 02, request (vi)): the fate of each record, and their counts. Assumes nothing.
use Rattle.std.specs.Prelude.{Bool, true, false, ◌&&◌, Result, Ok, Err, List, [], ◌∷◌, ◌++◌, ℕ, ◌+◌, length, eqb, leb}
use Rattle.lists.specs.Lists.{any, filter, same, over, first_failed, stage, Says}
use Rattle.limits.specs.declared.Limits.{Limits}
use Rattle.refusals.specs.declared.Refusal.{Refusal}
use Rattle.refusals.specs.Refusals.{refusal, number_in, values_in}
use Rattle.table_spec.specs.File.{Table, table_of}
use Rattle.tops_spec.specs.Tops.{top_words, live}
use Rattle.check_spec.specs.Check.{check_number}
use Rattle.quotient_spec.specs.Quotient.{image}
use Rattle.records_spec.specs.declared.Counts.{Counts}

-- "0 kept, 1 folded, 2 dead"
abbrev pub kept_mark : ℕ
kept_mark = 0

abbrev pub folded_mark : ℕ
folded_mark = 1

abbrev pub dead_mark : ℕ
dead_mark = 2

-- "whose image an earlier one, also not dead, already has": among the earlier records of its section, by which of them are alive
unfoldable pub taken : (List ℕ → Bool) → List ℕ → List (List ℕ) → List ℕ → Bool
taken alive m earlier r = any (λ e. alive e && same (image m e) (image m r)) earlier

-- "Dead means a dead return. Folded means a record that isn't dead and whose image an earlier one .. already has. Kept is any other."
unfoldable pub fate : (List ℕ → Bool) → List ℕ → List (List ℕ) → List ℕ → ℕ
fate alive m earlier r = elim (alive r) [
  | true ↦ elim (taken alive m earlier r) [ true ↦ folded_mark | false ↦ kept_mark ]
  | false ↦ dead_mark
]

-- the fates of records that stand after earlier ones of their section, "one byte a record in file order"
unfoldable pub fates_behind : (List ℕ → Bool) → List ℕ → List (List ℕ) → List (List ℕ) → List ℕ
fates_behind alive m earlier [] = []
fates_behind alive m earlier (r ∷ rs) = fate alive m earlier r ∷ fates_behind alive m (earlier ++ (r ∷ [])) rs

-- the fates of a section's records
abbrev pub section_fates : (List ℕ → Bool) → List ℕ → List (List ℕ) → List ℕ
section_fates alive m rs = fates_behind alive m [] rs

-- "every record of the input": a move is never dead, a return where it is not live
unfoldable pub fates_of : Table → List ℕ → List ℕ
fates_of t m = section_fates (λ r. true) m t.internals ++ (section_fates (λ r. true) m t.calls ++ section_fates (live (top_words t)) m t.returns)

-- a table's record count
unfoldable pub record_count : Table → ℕ
record_count t = length t.internals + length t.calls + length t.returns

-- how many records have a fate
unfoldable pub having : ℕ → List ℕ → ℕ
having mark fates = length (filter (eqb mark) fates)

-- N, K, F, D: the input's records, and those of them that are kept, folded and dead
unfoldable pub counts_of : Table → List ℕ → Counts
counts_of t m = record { all = record_count t; kept = having kept_mark (fates_of t m); folded = having folded_mark (fates_of t m); dead = having dead_mark (fates_of t m) }

-- "those of the check, then 21 under N bytes"; or 0
unfoldable pub records_number : Limits → List ℕ → List ℕ → List ℕ → ℕ
records_number L b m out = first_failed (stage (check_number L b m) ∷ (21, leb (record_count (table_of b)) (length out)) ∷ [])

-- the answer, and the output at exit
pub record RecordsDone : Type 0 where
  pub answer : Result Counts Refusal
  pub out : List ℕ

-- the operation: "the answer is N, K, F, D .. and one byte a record in file order ..; later bytes keep their content"
unfoldable pub records_of : Limits → List ℕ → List ℕ → List ℕ → RecordsDone
records_of L b m out = elim (eqb (records_number L b m out) 0) [
  | true ↦ record { answer = Ok (counts_of (table_of b) m); out = over (fates_of (table_of b) m) out }
  | false ↦ record { answer = Err (refusal (records_number L b m out)); out = out }
]

-- its values
abbrev pub count_values : Counts → List ℕ
count_values r = r.all ∷ r.kept ∷ r.folded ∷ r.dead ∷ []

-- the answer by its number and its values
abbrev pub RecordsSays : Limits → List ℕ → List ℕ → List ℕ → Result Counts Refusal → Type 0
RecordsSays L b m out r = Says (number_in r) (values_in count_values r) (records_number L b m out) (count_values (counts_of (table_of b) m))
