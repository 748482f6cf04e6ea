-- Two tables combined, as a table and as bytes: the product and the sum, the refusals in their order, and the answer. Assumes nothing.
use Rattle.std.specs.Prelude.{Bool, true, false, ◌&&◌, ◌||◌, Result, Ok, Err, List, [], ◌∷◌, ◌++◌, map, ℕ, ◌+◌, ◌*◌, ◌/◌, ◌%◌, length, get_or, drop, eqb, leb}
use Rattle.lists.specs.Lists.{filter, concat_map, upto, over, first_failed, stage, Says}
use Rattle.limits.specs.declared.Limits.{Limits}
use Rattle.refusals.specs.declared.Refusal.{Refusal}
use Rattle.refusals.specs.Refusals.{refusal, number_in, one_value, values_in}
use Rattle.table_spec.specs.File.{Table, table_of, bytes_of}
use Rattle.table_spec.specs.Reading.{is_initial, is_accepting, read_number}
use Rattle.table_spec.specs.Language.{count, byte_of, mark_of}
use Rattle.quotient_spec.specs.Quotient.{ascending, bit_of, QuotientDone}
use Rattle.fit_spec.specs.Fit.{same_symbols}
use Rattle.generate_spec.specs.Loads.{records_few}
use Rattle.combine_spec.specs.declared.How.{How}
use Rattle.combine_spec.specs.declared.How.TheVariants.{Intersection, Union}

-- a record whose states have other numbers
unfoldable pub renumbered : (ℕ → ℕ) → List ℕ → List ℕ
renumbered f [] = []
renumbered f (p ∷ []) = f p ∷ []
renumbered f (p ∷ a ∷ qs) = f p ∷ a ∷ map f qs

-- "The version is 2 where either input's is, else 1."
unfoldable pub later_version : ℕ → ℕ → ℕ
later_version v w = elim (eqb v 2 || eqb w 2) [ true ↦ 2 | false ↦ 1 ]

-- ---- the intersection: "states are pairs, numbered p·m + q, p of the first, q of the second of m"

abbrev pub pair_of : ℕ → ℕ → ℕ → ℕ
pair_of m p q = p * m + q

abbrev pub first_of : ℕ → ℕ → ℕ
first_of m u = u / m

abbrev pub second_of : ℕ → ℕ → ℕ
second_of m u = u % m

-- "initial and accepting where both are .. marks are the first's"
unfoldable pub pair_byte : ℕ → ℕ → ℕ
pair_byte x y = bit_of (is_initial x && is_initial y) + 2 * bit_of (is_accepting x && is_accepting y) + 4 * mark_of x

-- the states of two records, pair by pair
unfoldable pub pair_each : ℕ → List ℕ → List ℕ → List ℕ
pair_each m [] qs = []
pair_each m (p ∷ ps) [] = []
pair_each m (p ∷ ps) (q ∷ qs) = pair_of m p q ∷ pair_each m ps qs

-- two records that go by one symbol: "returns over the pair that was pushed"
unfoldable pub pair_record : ℕ → List ℕ → List ℕ → List ℕ
pair_record m [] s = []
pair_record m (p ∷ []) s = pair_of m p (get_or s 0 0) ∷ []
pair_record m (p ∷ a ∷ ps) s = pair_of m p (get_or s 0 0) ∷ a ∷ pair_each m ps (drop 2 s)

-- they do
unfoldable pub by_same_symbol : List ℕ → List ℕ → Bool
by_same_symbol r s = eqb (get_or r 1 0) (get_or s 1 0)

-- "internals, calls and returns where both move by the symbol"; "records ascend"
unfoldable pub pair_records : ℕ → List (List ℕ) → List (List ℕ) → List (List ℕ)
pair_records m rs ss = ascending (concat_map (λ r. map (pair_record m r) (filter (by_same_symbol r) ss)) rs)

unfoldable pub intersection_table : Table → Table → Table
intersection_table t u =
    record {
      version = later_version t.version u.version;
      symbols = t.symbols;
      states = map (λ x. pair_byte (byte_of t (first_of (count u) x)) (byte_of u (second_of (count u) x))) (upto (count t * count u));
      internals = pair_records (count u) t.internals u.internals;
      calls = pair_records (count u) t.calls u.calls;
      returns = pair_records (count u) t.returns u.returns;
    }

-- ---- the union: "the first's states, then the second's, each with its byte and its records"

unfoldable pub both_records : ℕ → List (List ℕ) → List (List ℕ) → List (List ℕ)
both_records n rs ss = rs ++ map (renumbered (λ q. n + q)) ss

unfoldable pub union_table : Table → Table → Table
union_table t u =
    record {
      version = later_version t.version u.version;
      symbols = t.symbols;
      states = t.states ++ u.states;
      internals = both_records (count t) t.internals u.internals;
      calls = both_records (count t) t.calls u.calls;
      returns = both_records (count t) t.returns u.returns;
    }

-- ---- either way

unfoldable pub combined_table : How → Table → Table → Table
combined_table (Intersection) t u = intersection_table t u
combined_table (Union) t u = union_table t u

unfoldable pub combined_bytes : How → List ℕ → List ℕ → List ℕ
combined_bytes how b c = bytes_of (combined_table how (table_of b) (table_of c))

-- 35: "a state count past the limit in force"
unfoldable pub states_few : Limits → Table → Bool
states_few L t = leb (count t) L.states

-- "39; the first table's refusals, the second's, 37 for symbols that differ; 35 .. 36 for more records of a kind than a file permits; 21"; or 0
unfoldable pub combine_number : Limits → How → List ℕ → List ℕ → List ℕ → ℕ
combine_number L how b c out =
    first_failed (
    stage (read_number L b)
    ∷ stage (read_number L c)
    ∷ (37, same_symbols (table_of b) (table_of c))
    ∷ (35, states_few L (combined_table how (table_of b) (table_of c)))
    ∷ (36, records_few (combined_table how (table_of b) (table_of c)))
    ∷ (21, leb (length (combined_bytes how b c)) (length out))
    ∷ [])

-- the operation: "The answer is the length; later bytes keep their content."
unfoldable pub combine_of : Limits → How → List ℕ → List ℕ → List ℕ → QuotientDone
combine_of L how b c out = elim (eqb (combine_number L how b c out) 0) [
  | true ↦ record { answer = Ok (length (combined_bytes how b c)); out = over (combined_bytes how b c) out }
  | false ↦ record { answer = Err (refusal (combine_number L how b c out)); out = out }
]

-- the answer by its number and its values
abbrev pub CombineSays : Limits → How → List ℕ → List ℕ → List ℕ → Result ℕ Refusal → Type 0
CombineSays L how b c out r = Says (number_in r) (values_in one_value r) (combine_number L how b c out) (length (combined_bytes how b c) ∷ [])
