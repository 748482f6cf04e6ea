-- Reading a table: the refusals 39 and 1 to 8 in their order, and the answer (document 01, "The table file" and "Refused calls"; document 02,
-- (v)). Assumes nothing.
use Rattle.std.specs.Prelude.{◌≡◌, Bool, true, false, ◌&&◌, ◌||◌, Result, List, [], ◌∷◌, ℕ, ◌-◌, ◌/◌, ◌%◌, length, get_or, eqb, ltb, leb}
use Rattle.lists.specs.Lists.{any, all, first_failed, Says}
use Rattle.limits.specs.Limits.{limits_fit}
use Rattle.limits.specs.declared.Limits.{Limits}
use Rattle.refusals.specs.declared.Refusal.{Refusal}
use Rattle.refusals.specs.Refusals.{answered, number_in, values_in}
use Rattle.table_spec.specs.Limits.{longest, move_limit, return_limit}
use Rattle.table_spec.specs.File.{Table, table_of, trailer, distance, version, start}
use Rattle.table_spec.specs.declared.Starts.{Starts}

-- 1: "under 12 or over 22,596 bytes", or what the longest file of the limits in force has
unfoldable pub length_fits : Limits → List ℕ → Bool
length_fits L b = leb 12 (length b) && leb (length b) (longest L)

-- 2: "version"; request (v): "2 is any other version" than 1 and 2
unfoldable pub version_fits : ℕ → Bool
version_fits v = eqb v 1 || eqb v 2

-- 3: "first distance not length less 12, distances rising, or a record section not a whole number of records"
unfoldable pub distances_fit : List ℕ → Bool
distances_fit b =
    eqb (distance b 0) (trailer b)
    && leb (distance b 1) (distance b 0) && leb (distance b 2) (distance b 1)
    && leb (distance b 3) (distance b 2) && leb (distance b 4) (distance b 3)
    && eqb ((distance b 2 - distance b 3) % 3) 0 && eqb ((distance b 3 - distance b 4) % 3) 0 && eqb (distance b 4 % 4) 0

-- 4: "a count outside its limits"
unfoldable pub counts_fit : Limits → Table → Bool
counts_fit L t =
    leb (length t.symbols) L.symbols
    && leb 1 (length t.states) && leb (length t.states) L.states
    && leb (length t.internals) move_limit && leb (length t.calls) move_limit && leb (length t.returns) return_limit

-- a version's limit of a state byte; request (v), of version 2: "the byte is at most 63"; "Version 1 .. keeps its limit of 3"
unfoldable pub state_byte_most : ℕ → ℕ
state_byte_most v = elim (eqb v 2) [ true ↦ 63 | false ↦ 3 ]

-- 5: "a symbol byte over 2"; request (v): "a state byte over its version's limit"
unfoldable pub bytes_fit : Table → Bool
bytes_fit t = all (λ x. leb x 2) t.symbols && all (λ x. leb x (state_byte_most t.version)) t.states

-- "1 for initial"
unfoldable pub is_initial : ℕ → Bool
is_initial byte = eqb (byte % 2) 1

-- "plus 2 for accepting"
unfoldable pub is_accepting : ℕ → Bool
is_accepting byte = eqb (byte / 2 % 2) 1

-- 6: "no initial state"
unfoldable pub start_fits : Table → Bool
start_fits t = any is_initial t.states

-- one record of symbols of a kind: state, symbol, then one or two states
unfoldable pub record_fits : Table → ℕ → List ℕ → Bool
record_fits t kind [] = false
record_fits t kind (p ∷ []) = false
record_fits t kind (p ∷ a ∷ qs) =
    ltb p (length t.states) && (ltb a (length t.symbols) && eqb (get_or t.symbols a 0) kind) && all (λ q. ltb q (length t.states)) qs

-- 7: "a record with a state or symbol past the count or a symbol of another kind"; "0 internal, 1 call, 2 return"
unfoldable pub records_fit : Table → Bool
records_fit t = all (record_fits t 0) t.internals && all (record_fits t 1) t.calls && all (record_fits t 2) t.returns

-- one byte string stands before the other
unfoldable pub before : List ℕ → List ℕ → Bool
before [] [] = false
before [] (y ∷ ys) = true
before (x ∷ xs) [] = false
before (x ∷ xs) (y ∷ ys) = ltb x y || (eqb x y && before xs ys)

-- "A section's records ascend strictly as byte strings", after r
unfoldable pub ascend_from : List ℕ → List (List ℕ) → Bool
ascend_from r [] = true
ascend_from r (s ∷ rs) = before r s && ascend_from s rs

unfoldable pub ascend : List (List ℕ) → Bool
ascend [] = true
ascend (r ∷ rs) = ascend_from r rs

-- 8: "order"
unfoldable pub order_fits : Table → Bool
order_fits t = ascend t.internals && ascend t.calls && ascend t.returns

-- 4 to 8, of a table
unfoldable pub table_tests : Limits → Table → List (ℕ × Bool)
table_tests L t = (4, counts_fit L t) ∷ (5, bytes_fit t) ∷ (6, start_fits t) ∷ (7, records_fit t) ∷ (8, order_fits t) ∷ []

-- 39, "a limit of zero or past its maximum comes first"; then the first of 1 to 8 that applies; or 0
unfoldable pub read_number : Limits → List ℕ → ℕ
read_number L b = first_failed ((39, limits_fit L) ∷ (1, length_fits L b) ∷ (2, version_fits (version b)) ∷ (3, distances_fit b) ∷ table_tests L (table_of b))

abbrev pub Readable : Limits → List ℕ → Type 0
Readable L b = read_number L b ≡ 0

-- "Reading answers the five section starts."
unfoldable pub starts_of : List ℕ → Starts
starts_of b = record { symbols = start b 0; states = start b 1; internals = start b 2; calls = start b 3; returns = start b 4 }

-- the operation: no buffer is lent for writing
unfoldable pub read_of : Limits → List ℕ → Result Starts Refusal
read_of L b = answered (read_number L b) (starts_of b)

-- its values
abbrev pub start_values : Starts → List ℕ
start_values s = s.symbols ∷ s.states ∷ s.internals ∷ s.calls ∷ s.returns ∷ []

-- the answer by its number and its values
abbrev pub ReadSays : Limits → List ℕ → Result Starts Refusal → Type 0
ReadSays L b r = Says (number_in r) (values_in start_values r) (read_number L b) (start_values (starts_of b))

-- a table whose bytes are readable: its version is 1 or 2, its records have their widths, and 39 and 4 to 8 do not apply
pub record WellFormed (L : Limits) (t : Table) : Type 0 where
  pub limits : limits_fit L ≡ true
  pub versioned : version_fits t.version ≡ true
  pub internals-wide : all (λ r. eqb (length r) 3) t.internals ≡ true
  pub calls-wide : all (λ r. eqb (length r) 3) t.calls ≡ true
  pub returns-wide : all (λ r. eqb (length r) 4) t.returns ≡ true
  pub fits : first_failed (table_tests L t) ≡ 0
