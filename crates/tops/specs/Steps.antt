-- The sections of a table that the tops are worked out from, as parts of the file, and what is handed on with them. Assumes nothing.
use Rattle.std.specs.Prelude.{◌≡◌, ◌≢◌, true, false, Result, Ok, Err, ℕ, suc, ◌%◌, ◌^◌, ◌<◌, ◌≤◌, length, get_or, eqb, []}
use mathlib.Core.List.{List, Memᴰ}
use Rattle.lists.specs.Bits.{has}
use Rattle.limits.specs.Limits.{state_most}
use Rattle.limits.specs.declared.Limits.{Limits}
use Rattle.refusals.specs.declared.Refusal.{Refusal}
use Rattle.refusals.specs.Refusals.{answered}
use Rattle.table_spec.specs.File.{Table, records, table_of}
use Rattle.table_spec.specs.Reading.{read_number, starts_of}
use Rattle.table_spec.specs.declared.Starts.{Starts}
use Rattle.table_view.specs.Sections.{sectioned}
use Rattle.table_view.specs.declared.Sections.{Sections}
use Rattle.tops_spec.specs.declared.TopWords.{TopWords}
use Rattle.tops_spec.specs.Tops.{add, by_internals, by_calls, by_returns, top_words, top_count}
use Rattle.tops.specs.declared.Kind.{Kind}
use Rattle.tops.specs.declared.Kind.TheVariants.{Internal, Call, Return}

-- a whole number of records of w bytes, of which all but the second are below n
pub record StateRecords (w n : ℕ) (s : List ℕ) : Type 0 where
  pub whole : length s % w ≡ 0
  pub states : (r : List ℕ) → Memᴰ r (records w s) → (i : ℕ) → i ≢ 1 → i < w → get_or r i 0 < n

-- the bytes of a record of a kind
abbrev pub width_of : Kind → ℕ
width_of Internal = 3
width_of Call = 3
width_of Return = 4

-- what a record of a kind does to the words, by its first state, its third byte and its last one
unfoldable pub step_by : Kind → List ℕ → ℕ → ℕ → ℕ → List ℕ
step_by Internal f q s q' = add f q' (get_or f q 0)
step_by Call f q s q' = elim (eqb (get_or f q 0) 0) [ true ↦ f | false ↦ add f q' (2 ^ q) ]
step_by Return f q s q' = elim (has f q s) [ true ↦ add f q' (get_or f s 0) | false ↦ f ]

-- what the records of a section do
abbrev pub by_records : Kind → List (List ℕ) → List ℕ → List ℕ
by_records Internal rs f = by_internals rs f
by_records Call rs f = by_calls rs f
by_records Return rs f = by_returns rs f

-- at most 40 states, and records that name states
pub record StateParts (states internals calls returns : List ℕ) : Type 0 where
  pub few : length states ≤ state_most
  pub internals-whole : StateRecords 3 (length states) internals
  pub calls-whole : StateRecords 3 (length states) calls
  pub returns-whole : StateRecords 4 (length states) returns

-- the same of the sections of a table, and the table that they are: nothing is looked at but its states and records
abbrev pub StateSections : Sections → Type 0
StateSections s = StateParts s.states.now s.internals.now s.calls.now s.returns.now

abbrev pub table_in : Sections → Table
table_in s = sectioned 0 [] s.states.now s.internals.now s.calls.now s.returns.now

-- a word for each possible state, none with a bit past bottom's
pub record Small (f : List ℕ) : Type 0 where
  pub long : length f ≡ state_most
  pub each : (q : ℕ) → get_or f q 0 < 2 ^ suc state_most

-- the answer of a table that was read
unfoldable pub tops_found : Table → TopWords
tops_found t = record { words = top_words t; found = top_count t }

-- what other operations go on with: the section starts and the tops
pub record Examination : Type 0 where
  pub starts : Starts
  pub words : List ℕ
  pub found : ℕ

-- "is lent the whole file and reads it first": those of a readable table, else the refusal
unfoldable pub examined_of : Limits → List ℕ → Result Examination Refusal
examined_of L b = answered (read_number L b) (record { starts = starts_of b; words = top_words (table_of b); found = top_count (table_of b) })

-- the examination that is made of what is handed on, or the refusal
abbrev pub examination_of : {A : Type 0} → (A → Starts) → (A → List ℕ) → (A → ℕ) → Result A Refusal → Result Examination Refusal
examination_of starts words found (Ok x) = Ok (record { starts = starts x; words = words x; found = found x })
examination_of starts words found (Err r) = Err r
