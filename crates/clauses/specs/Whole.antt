-- What the code that writes the whole clause list is stated with. Assumes nothing.
use Rattle.std.specs.Prelude.{Bool, true, false, ◌&&◌, Ok, Err, List, [], ◌++◌, ℕ, length, leb}
use Rattle.lists.specs.Lists.{over}
use Rattle.table_spec.specs.File.{Table, records, of_states}
use Rattle.table_spec.specs.declared.Starts.{Starts}
use Rattle.table_view.specs.Sections.{part_of}
use Rattle.table_view.specs.declared.Section.TheVariants.{States, Internals, Calls, Returns}
use Rattle.cnf.specs.Clauses.{words_of}
use Rattle.refusals.specs.declared.Refusal.TheVariants.{ListLength}
use Rattle.clauses_records.specs.Returns.{return_clauses_by}
use Rattle.clauses_spec.specs.Clauses.{look_clauses, transitivity, move_clauses, ClausesDone, clause_list, short_list}

-- the whole list of a table, or the one without group 2
abbrev pub list_for : Bool → Table → List (List ℕ)
list_for true t = clause_list t
list_for false t = short_list t

-- group 2, where the list is to be whole
abbrev pub closure_for : Bool → Table → List (List ℕ)
closure_for true t = transitivity t
closure_for false t = []

-- the list of a table's four sections under its tops
unfoldable pub list_by : Bool → List ℕ → List ℕ → List ℕ → List ℕ → List ℕ → List (List ℕ)
list_by whole states internals calls returns tops =
    look_clauses (of_states states)
    ++ closure_for whole (of_states states)
    ++ move_clauses (records 3 internals) (length states)
    ++ move_clauses (records 3 calls) (length states)
    ++ return_clauses_by tops (records 4 returns) (length states)

-- up to 4 states and 3 records of each kind: a short room is enough
unfoldable pub is_small : List ℕ → Starts → Bool
is_small b s =
    leb (length (part_of b s States)) 4 && leb (length (part_of b s Internals)) 9 && leb (length (part_of b s Calls)) 9 && leb (length (part_of b s Returns)) 12

-- the answer and the buffer for a list
unfoldable pub listed_by : List (List ℕ) → List ℕ → ClausesDone
listed_by cs list = elim (leb (length (words_of cs)) (length list)) [
  | true ↦ record { answer = Ok (record { clauses = length cs; words = length (words_of cs) }); list = over (words_of cs) list }
  | false ↦ record { answer = Err ListLength; list = list }
]
