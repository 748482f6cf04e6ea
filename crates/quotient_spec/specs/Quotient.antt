-- The quotient as a table and as bytes (document 01, "Check and quotient"; document 02, (v)). Assumes nothing.
use Rattle.std.specs.Prelude.{Bool, true, false, ◌&&◌, Result, Ok, Err, List, [], ◌∷◌, map, ℕ, ◌+◌, ◌*◌, length, get_or, eqb, leb}
use Rattle.lists.specs.Lists.{any, upto, over, first_failed, stage, Says}
use Rattle.limits.specs.declared.Limits.{Limits}
use Rattle.refusals.specs.declared.Refusal.{Refusal}
use Rattle.refusals.specs.Refusals.{refusal, number_in, one_value, values_in}
use Rattle.table_spec.specs.File.{Table, table_of, bytes_of}
use Rattle.table_spec.specs.Reading.{before, is_initial, is_accepting}
use Rattle.table_spec.specs.Language.{count, byte_of, mark_of}
use Rattle.table_spec.specs.Maps.{class_of, classes}
use Rattle.tops_spec.specs.Tops.{live_returns}
use Rattle.check_spec.specs.Check.{check_number}

-- the image of a record: each state's class, and the symbol
unfoldable pub image : List ℕ → List ℕ → List ℕ
image m [] = []
image m (p ∷ []) = class_of m p ∷ []
image m (p ∷ a ∷ qs) = class_of m p ∷ a ∷ map (class_of m) qs

-- a record into ascending records, unless it is there
unfoldable pub insert : List ℕ → List (List ℕ) → List (List ℕ)
insert r [] = r ∷ []
insert r (s ∷ rs) = elim (before r s) [ true ↦ r ∷ s ∷ rs | false ↦ elim (before s r) [ true ↦ s ∷ insert r rs | false ↦ s ∷ rs ] ]

-- "each once, ascending"
unfoldable pub ascending : List (List ℕ) → List (List ℕ)
ascending [] = []
ascending (r ∷ rs) = insert r (ascending rs)

unfoldable pub images : List ℕ → List (List ℕ) → List (List ℕ)
images m rs = ascending (map (image m) rs)

-- some member of class c has a byte that passes
unfoldable pub member_has : (ℕ → Bool) → Table → List ℕ → ℕ → Bool
member_has test t m c = any (λ q. eqb (class_of m q) c && test (byte_of t q)) (upto (count t))

unfoldable pub bit_of : Bool → ℕ
bit_of true = 1
bit_of false = 0

-- by the states' bytes, the mark of the first of these states that is in class c; 0 where none is
unfoldable pub mark_among : List ℕ → List ℕ → ℕ → List ℕ → ℕ
mark_among states m c [] = 0
mark_among states m c (q ∷ qs) = elim (eqb (class_of m q) c) [ true ↦ mark_of (get_or states q 0) | false ↦ mark_among states m c qs ]

-- request (v): "the members' mark", on which they agree where the check accepts the map
unfoldable pub class_mark : Table → List ℕ → ℕ → ℕ
class_mark t m c = mark_among t.states m c (upto (count t))

-- "initial or accepting if a member is", and the members' mark, "times 4"
unfoldable pub class_byte : Table → List ℕ → ℕ → ℕ
class_byte t m c = bit_of (member_has is_initial t m c) + 2 * bit_of (member_has is_accepting t m c) + 4 * class_mark t m c

-- "The quotient has one state a class"; "Its records are the images of internals, calls and live returns"; request (v): "its input's version"
unfoldable pub quotient_table : Table → List ℕ → Table
quotient_table t m =
    record {
      version = t.version;
      symbols = t.symbols;
      states = map (class_byte t m) (upto (classes m));
      internals = images m t.internals;
      calls = images m t.calls;
      returns = images m (live_returns t);
    }

unfoldable pub quotient_bytes : List ℕ → List ℕ → List ℕ
quotient_bytes b m = bytes_of (quotient_table (table_of b) m)

-- "those of the check; 21 output short"; or 0
unfoldable pub quotient_number : Limits → List ℕ → List ℕ → List ℕ → ℕ
quotient_number L b m out = first_failed (stage (check_number L b m) ∷ (21, leb (length (quotient_bytes b m)) (length out)) ∷ [])

-- the answer, and the output at exit
pub record QuotientDone : Type 0 where
  pub answer : Result ℕ Refusal
  pub out : List ℕ

-- the operation: "The answer is the length; later bytes keep their content."
unfoldable pub quotient_of : Limits → List ℕ → List ℕ → List ℕ → QuotientDone
quotient_of L b m out = elim (eqb (quotient_number L b m out) 0) [
  | true ↦ record { answer = Ok (length (quotient_bytes b m)); out = over (quotient_bytes b m) out }
  | false ↦ record { answer = Err (refusal (quotient_number L b m out)); out = out }
]

-- the answer by its number and its values
abbrev pub QuotientSays : Limits → List ℕ → List ℕ → List ℕ → Result ℕ Refusal → Type 0
QuotientSays L b m out r = Says (number_in r) (values_in one_value r) (quotient_number L b m out) (length (quotient_bytes b m) ∷ [])
