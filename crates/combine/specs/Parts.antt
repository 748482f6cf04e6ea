-- What the functions of src/ are stated with: two tables that were read, their states combined, and what is left to test of them. Assumes nothing.
use Rattle.std.specs.Prelude.{◌≡◌, true, false, Err, List, [], ◌∷◌, ◌++◌, map, ℕ, ◌+◌, ◌*◌, ◌/◌, ◌%◌, ◌≤◌, length, get_or}
use Rattle.lists.specs.Lists.{upto}
use Rattle.limits.specs.declared.Limits.{Limits}
use Rattle.limits.specs.Limits.{state_most, symbol_most}
use Rattle.table_spec.specs.Limits.{move_limit, return_limit}
use Rattle.table_spec.specs.File.{table_of, records}
use Rattle.table_spec.specs.declared.Starts.{Starts}
use Rattle.table_view.specs.Sections.{ReadAs}
use Rattle.quotient_spec.specs.Quotient.{QuotientDone}
use Rattle.refusals.specs.declared.Refusal.TheVariants.{LoadRecords}
use Rattle.table_write.specs.Tables.{written_for}
use Rattle.generate_spec.specs.Loads.{records_few}
use Rattle.combine_spec.specs.Combine.{pair_byte, pair_records, both_records, combined_table, combined_bytes, states_few}
use Rattle.combine_spec.specs.Walk.{walk}
use Rattle.combine_spec.specs.declared.How.{How}
use Rattle.combine_spec.specs.declared.How.TheVariants.{Intersection, Union}
use Rattle.combine_keys.specs.Factors.{Factors, Summands, stack_bounds}

-- how many states there are
unfoldable pub state_count : How → ℕ → ℕ → ℕ
state_count (Intersection) n m = n * m
state_count (Union) n m = n + m

-- their bytes
unfoldable pub state_bytes : How → List ℕ → List ℕ → List ℕ
state_bytes (Intersection) f s = map (λ x. pair_byte (get_or f (x / length s) 0) (get_or s (x % length s) 0)) (upto (length f * length s))
state_bytes (Union) f s = f ++ s

-- the records of a section, of n and m states
unfoldable pub section_records : How → ℕ → ℕ → List (List ℕ) → List (List ℕ) → List (List ℕ)
section_records (Intersection) n m rs ss = pair_records m rs ss
section_records (Union) n m rs ss = both_records n rs ss

-- two sections of k symbols that may be combined
abbrev pub Sections : How → ℕ → ℕ → ℕ → ℕ → List ℕ → List ℕ → Type 0
Sections (Intersection) w n m k f s =
    Factors w n m f s × (k ≤ symbol_most) × (walk m (records w f) (records w s) (n * m ∷ k ∷ stack_bounds w (n * m)) [] ≡ pair_records m (records w f) (records w s))
Sections (Union) w n m k f s = Summands w n f s

-- two tables that were read, and their starts
pub record BothRead (L : Limits) (b : List ℕ) (x : Starts) (c : List ℕ) (y : Starts) : Type 0 where
  pub first : ReadAs L b x
  pub second : ReadAs L c y

-- .. at whatever limits, where 37 and 35 do not apply
pub record Combined (how : How) (b : List ℕ) (x : Starts) (c : List ℕ) (y : Starts) : Type 0 where
  pub limits : Limits
  pub both : BothRead limits b x c y
  pub symbols : (table_of b).symbols ≡ (table_of c).symbols
  pub states : states_few limits (combined_table how (table_of b) (table_of c)) ≡ true

-- symbols, states and keys, no more than a file permits
pub record Few (how : How) (symbols f s moves pushes pops : List ℕ) : Type 0 where
  pub symbols-few : length symbols ≤ symbol_most
  pub firsts-few : length f ≤ state_most
  pub seconds-few : length s ≤ state_most
  pub states-few : state_count how (length f) (length s) ≤ state_most
  pub moves-few : length moves ≤ move_limit
  pub pushes_few : length pushes ≤ move_limit
  pub pops_few : length pops ≤ return_limit

-- 36 and 21: the answer and the output where nothing else applies
unfoldable pub combined_for : How → List ℕ → List ℕ → List ℕ → QuotientDone
combined_for how b c out = elim (records_few (combined_table how (table_of b) (table_of c))) [
  | true ↦ written_for (combined_bytes how b c) out
  | false ↦ record { answer = Err LoadRecords; out = out }
]
