-- What the functions between the search and the delivery promise. Assumes nothing.
use Rattle.std.specs.Prelude.{◌≡◌, true, false, Result, List, ℕ, length, Option, Some, None}
use Rattle.lists.specs.Lists.{over}
use Rattle.limits.specs.declared.Limits.{Limits}
use Rattle.refusals.specs.declared.Refusal.{Refusal}
use Rattle.cnf.specs.Trials.{not_false}
use Rattle.pairs.specs.Pairs.{pairs}
use Rattle.table_spec.specs.File.{Table, table_of}
use Rattle.table_spec.specs.Language.{count}
use Rattle.check_map.specs.Known.{WhereReadable}
use Rattle.clauses_spec.specs.Clauses.{short_words}
use Rattle.clauses_spec.specs.Maps.{map_of}
use Rattle.sat_decide.specs.declared.Ending.{Ending}
use Rattle.sat_decide.specs.declared.Ending.TheVariants.{Found, Absent, Spent}
use Rattle.reduce_spec.specs.Reduce.{joined_pairs, Reduced}
use Rattle.reduce_spec.specs.declared.Reduction.{Reduction}
use Rattle.reduce.specs.declared.Made.{Made}

-- the end of a search, as its guesses and how it ended; none where no assignment exists
abbrev pub MadeBy : Ending → Option Made → Type 0
MadeBy (Found k) m = m ≡ Some (record { guesses = k; spent = false })
MadeBy (Absent k) m = m ≡ None
MadeBy (Spent k) m = m ≡ Some (record { guesses = k; spent = true })

-- values of the pairs of the table's n states, of which as many are not false as their map joins
pub record HeldFor (t : Table) (n : ℕ) (v : List ℕ) : Type 0 where
  pub states : n ≡ count t
  pub long : length v ≡ pairs n
  pub joined : not_false v ≡ joined_pairs n (map_of v n)

-- at all limits that the table is readable at, and whatever stood in the clause buffer before the list was written to it: what f gives
abbrev pub ListWritten : List ℕ → Result Reduction Refusal → List ℕ → List ℕ → (Limits → List ℕ → Reduced) → Type 0
ListWritten b r map out f = WhereReadable b (λ L. (before : List ℕ) → record { answer = r; list = over (short_words (table_of b)) before; map = map; out = out } ≡ f L before)
