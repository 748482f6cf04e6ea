-- Use counts by class (document 02, request (vii)). Assumes nothing.
use Rattle.std.specs.Prelude.{Bool, ◌&&◌, Result, List, [], ◌∷◌, ◌++◌, map, ℕ, ◌+◌, ◌*◌, ◌/◌, ◌%◌, length, get_or, eqb, leb, ltb}
use Rattle.lists.specs.Lists.{all, filter, upto, sum, first_failed, stage, Says}
use Rattle.limits.specs.declared.Limits.{Limits}
use Rattle.refusals.specs.declared.Refusal.{Refusal}
use Rattle.refusals.specs.Refusals.{answered, number_in, values_in}
use Rattle.limits.specs.Limits.{state_most}
use Rattle.table_spec.specs.File.{records, table_of}
use Rattle.table_spec.specs.Language.{count}
use Rattle.table_spec.specs.Maps.{class_of}
use Rattle.check_spec.specs.Check.{check_number}
use Rattle.uses_spec.specs.declared.Counted.{Counted}

-- "lines of a state (one byte) and a use count (32 bits, little-endian)"
pub record Line : Type 0 where
  pub state : ℕ
  pub uses : ℕ

unfoldable pub line_of : List ℕ → Line
line_of r = record { state = get_or r 0 0; uses = get_or r 1 0 + 256 * get_or r 2 0 + 65536 * get_or r 3 0 + 16777216 * get_or r 4 0 }

-- the lines that bytes hold, 5 bytes each
unfoldable pub lines_of : List ℕ → List Line
lines_of s = map line_of (records 5 s)

-- the use counts of lines, added up
unfoldable pub uses_in : List Line → ℕ
uses_in ls = sum (map (λ l. l.uses) ls)

-- "the sum by class": the lines whose state has class c
unfoldable pub class_sum : List ℕ → List Line → ℕ → ℕ
class_sum m ls c = uses_in (filter (λ l. eqb (class_of m l.state) c) ls)

-- the sum by state: the lines of state q
unfoldable pub state_sum : List Line → ℕ → ℕ
state_sum ls q = uses_in (filter (λ l. eqb l.state q) ls)

-- "one number for each possible state": 40 with (xiii), whatever limits are in force
unfoldable pub class_sums : List ℕ → List Line → List ℕ
class_sums m ls = map (class_sum m ls) (upto state_most)

-- 32: "a length that isn't a multiple of 5 or over 65,536 lines"
unfoldable pub lines_fit : List ℕ → Bool
lines_fit s = eqb (length s % 5) 0 && leb (length s / 5) 65536

-- 33: "a state past the count"
unfoldable pub states_fit : ℕ → List ℕ → Bool
states_fit n s = all (λ l. ltb l.state n) (lines_of s)

-- 32, 33, for a table of n states
unfoldable pub lines_tests : ℕ → List ℕ → List (ℕ × Bool)
lines_tests n s = (32, lines_fit s) ∷ (33, states_fit n s) ∷ []

-- "those of the check, then 32 .., 33"; or 0
unfoldable pub uses_number : Limits → List ℕ → List ℕ → List ℕ → ℕ
uses_number L b m s = first_failed (stage (check_number L b m) ∷ lines_tests (count (table_of b)) s)

-- the sums, then "the grand total"
unfoldable pub counted : List ℕ → List ℕ → Counted
counted m s = record { sums = class_sums m (lines_of s); total = uses_in (lines_of s) }

-- the answer whose number is k, 0 where nothing is refused
unfoldable pub answer_by : ℕ → List ℕ → List ℕ → Result Counted Refusal
answer_by k m s = answered k (counted m s)

-- the operation
unfoldable pub uses_of : Limits → List ℕ → List ℕ → List ℕ → Result Counted Refusal
uses_of L b m s = answer_by (uses_number L b m s) m s

-- an answer's values: the sums, then the total
abbrev pub counted_values : Counted → List ℕ
counted_values r = r.sums ++ (r.total ∷ [])

-- the answer by its number and its values
abbrev pub UsesSays : Limits → List ℕ → List ℕ → List ℕ → Result Counted Refusal → Type 0
UsesSays L b m s r = Says (number_in r) (values_in counted_values r) (uses_number L b m s) (counted_values (counted m s))
