-- Examples of combinations: what the definitions answer, computed by the checker, and what they must answer. Assumes nothing.
use mathlib.Core.Path.{◌≡◌, refl}
use mathlib.Core.List.{List, [], ◌∷◌, map}
use Prim.Native.Nat.{ℕ}
use lib.ListN.{replicate}
use Rattle.lists.specs.Lists.{any, all, filter, concat_map, upto, same, parts, concat, first_failed}
use Rattle.limits.specs.declared.Limits.{Limits}
use Rattle.limits.specs.Limits.{standard, limits_fit}
use Rattle.table_spec.specs.Limits.{longest}
use Rattle.table_spec.specs.File.{Table, word16, trailer, distance, version, start, records, table_of, bytes16, from_returns, from_calls, from_internals, from_states, from_symbols, trailer_of, bytes_of}
use Rattle.table_spec.specs.Reading.{length_fits, version_fits, distances_fit, counts_fit, state_byte_most, bytes_fit, is_initial, is_accepting, start_fits, record_fits, records_fit, before, ascend_from, ascend, order_fits, table_tests, read_number}
use Rattle.table_spec.specs.Language.{mark_of}
use Rattle.quotient_spec.specs.Quotient.{insert, ascending, bit_of}
use Rattle.fit_spec.specs.Fit.{same_symbols}
use Rattle.generate_spec.specs.Loads.{tuples, span, possible, records_few}
use Rattle.combine_spec.specs.Combine.{renumbered, later_version, pair_byte, pair_each, pair_record, by_same_symbol, pair_records, intersection_table, both_records, union_table, combined_table, combined_bytes, states_few, combine_number}
use Rattle.combine_spec.specs.declared.How.{How}
use Rattle.combine_spec.specs.declared.How.TheVariants.{Intersection, Union}

-- two states each and a symbol of each kind; the second, of version 2, has a mark and one more internal
abbrev first : Table
first = record { version = 1; symbols = 0 ∷ 1 ∷ 2 ∷ []; states = 1 ∷ 2 ∷ []; internals = (0 ∷ 0 ∷ 1 ∷ []) ∷ []; calls = (0 ∷ 1 ∷ 0 ∷ []) ∷ []; returns = (1 ∷ 2 ∷ 0 ∷ 1 ∷ []) ∷ [] }

abbrev second : Table
second = record { version = 2; symbols = 0 ∷ 1 ∷ 2 ∷ []; states = 1 ∷ 6 ∷ []; internals = (0 ∷ 0 ∷ 1 ∷ []) ∷ (1 ∷ 0 ∷ 1 ∷ []) ∷ []; calls = (0 ∷ 1 ∷ 1 ∷ []) ∷ []; returns = (1 ∷ 2 ∷ 0 ∷ 1 ∷ []) ∷ [] }

pub intersected : bytes_of (combined_table Intersection first second)
    ≡ 0 ∷ 1 ∷ 2 ∷ 1 ∷ 0 ∷ 0 ∷ 2 ∷ 0 ∷ 0 ∷ 3 ∷ 1 ∷ 0 ∷ 3 ∷ 0 ∷ 1 ∷ 1 ∷ 3 ∷ 2 ∷ 0 ∷ 3 ∷ 20 ∷ 0 ∷ 17 ∷ 0 ∷ 13 ∷ 0 ∷ 7 ∷ 0 ∷ 4 ∷ 0 ∷ 2 ∷ 0 ∷ []
unfolding filter upto bytes16 from_returns from_calls from_internals from_states from_symbols trailer_of bytes_of is_initial is_accepting mark_of before insert ascending bit_of later_version pair_byte pair_each pair_record by_same_symbol pair_records intersection_table combined_table
intersected = refl

-- the first's mark, where the two change places
pub marked : (combined_table Intersection second first).states ≡ 1 ∷ 0 ∷ 4 ∷ 6 ∷ []
unfolding upto is_initial is_accepting mark_of bit_of pair_byte intersection_table combined_table
marked = refl

pub united : bytes_of (combined_table Union first second)
    ≡ 0 ∷ 1 ∷ 2 ∷ 1 ∷ 2 ∷ 1 ∷ 6 ∷ 0 ∷ 0 ∷ 1 ∷ 2 ∷ 0 ∷ 3 ∷ 3 ∷ 0 ∷ 3 ∷ 0 ∷ 1 ∷ 0 ∷ 2 ∷ 1 ∷ 3 ∷ 1 ∷ 2 ∷ 0 ∷ 1 ∷ 3 ∷ 2 ∷ 2 ∷ 3 ∷ 30 ∷ 0 ∷ 27 ∷ 0 ∷ 23 ∷ 0 ∷ 14 ∷ 0 ∷ 8 ∷ 0 ∷ 2 ∷ 0 ∷ []
unfolding bytes16 from_returns from_calls from_internals from_states from_symbols trailer_of bytes_of renumbered later_version both_records union_table combined_table
united = refl

-- ---- the refusals

-- n states, all initial, and internals by k symbols from every state to every state
abbrev full : ℕ → ℕ → List ℕ
full n k = bytes_of (record { version = 1; symbols = replicate k 0; states = replicate n 1; internals = possible 3 n 0 k; calls = []; returns = [] })

abbrev none : Limits
none = record { states = 0; symbols = 64 }

-- the limits, how, the two files, and room for so many bytes
abbrev number_for : Limits × How × List ℕ × List ℕ × ℕ → ℕ
number_for (L, how, b, c, room) = combine_number L how b c (replicate room 7)

abbrev calls : List (Limits × How × List ℕ × List ℕ × ℕ)
calls =
    -- exactly as long as the file; one byte less
    (standard, Intersection, bytes_of first, bytes_of second, 32)
    ∷ (standard, Intersection, bytes_of first, bytes_of second, 31)
    ∷ (standard, Union, bytes_of first, bytes_of second, 42)
    ∷ (standard, Union, bytes_of first, bytes_of second, 41)
    -- 39 before the first's, the first's before the second's, the second's before 37
    ∷ (none, Union, [], [], 0)
    ∷ (standard, Union, replicate 12 0, [], 0)
    ∷ (standard, Union, full 1 1, [], 0)
    -- symbols that differ, and 25 states: 37 before 35
    ∷ (standard, Intersection, full 5 0, full 5 1, 0)
    -- 25 pairs, which are 10 states side by side; 25 states side by side
    ∷ (standard, Intersection, full 5 0, full 5 0, 99)
    ∷ (standard, Union, full 5 0, full 5 0, 99)
    ∷ (standard, Union, full 12 0, full 13 0, 0)
    ∷ []

pub numbers : map number_for calls ≡ 0 ∷ 21 ∷ 0 ∷ 21 ∷ 39 ∷ 2 ∷ 1 ∷ 37 ∷ 35 ∷ 0 ∷ 35 ∷ []
unfolding filter upto same parts first_failed limits_fit longest word16 trailer distance version start records table_of bytes16 from_returns from_calls from_internals from_states from_symbols trailer_of bytes_of length_fits version_fits distances_fit counts_fit state_byte_most bytes_fit is_initial is_accepting start_fits record_fits records_fit before ascend_from ascend order_fits table_tests read_number mark_of insert ascending bit_of same_symbols tuples span possible records_few renumbered later_version pair_byte pair_each pair_record by_same_symbol pair_records intersection_table both_records union_table combined_table combined_bytes states_few combine_number
numbers = refl

-- 36: 576 internals each, 1,152 side by side, before 21
pub many : number_for (standard, Union, full 12 4, full 12 4, 0) ≡ 36
unfolding filter upto same parts first_failed limits_fit longest word16 trailer distance version start records table_of bytes16 from_returns from_calls from_internals from_states from_symbols trailer_of bytes_of length_fits version_fits distances_fit counts_fit state_byte_most bytes_fit is_initial is_accepting start_fits record_fits records_fit before ascend_from ascend order_fits table_tests read_number mark_of insert ascending bit_of same_symbols tuples span possible records_few renumbered later_version pair_byte pair_each pair_record by_same_symbol pair_records intersection_table both_records union_table combined_table combined_bytes states_few combine_number
many = refl
