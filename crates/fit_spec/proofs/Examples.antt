-- Examples of the comparison, computed by the checker. Assumes nothing.
use mathlib.Core.Path.{◌≡◌, refl}
use mathlib.Core.List.{List, [], ◌∷◌, map}
use Prim.Native.Nat.{ℕ}
use Rattle.lists.specs.Lists.{filter, parts, upto, same, first_failed}
use Rattle.lists.specs.Bits.{has_bit, has}
use Rattle.limits.specs.Limits.{limits_fit}
use Rattle.table_spec.specs.Limits.{longest}
use Rattle.table_spec.specs.File.{word16, trailer, distance, version, start, records, table_of}
use Rattle.table_spec.specs.Reading.{length_fits, version_fits, distances_fit, counts_fit, state_byte_most, bytes_fit, is_initial, is_accepting, start_fits, record_fits, records_fit, before, ascend_from, ascend, order_fits, table_tests, read_number}
use Rattle.table_spec.specs.Language.{targets}
use Rattle.tops_spec.specs.Tops.{add, by_internals, by_calls, live, by_returns, round, rounds, start_words, top_words_at}
use Rattle.quotient_spec.specs.Quotient.{bit_of}
use Rattle.refusals.specs.declared.Refusal.{Refusal}
use Rattle.refusals.specs.Refusals.{every, first_with, refusal, number_in, values_in}
use Rattle.script_spec.specs.Script.{yes_values}
use Rattle.std.specs.Prelude.{Bool, Result}
use Rattle.fit_spec.specs.Fit.{after, pair_move, pair_moves, pair_return, pair_returns, pair_byte, pair_table, ends, fits, one_target, one_initial, no_choice, same_symbols, fit_number, fit_of}

-- "Table T", and its quotient by 0 1 1 2
abbrev T : List ℕ
T = 0 ∷ 1 ∷ 2 ∷ 1 ∷ 0 ∷ 0 ∷ 2 ∷ 0 ∷ 0 ∷ 2 ∷ 1 ∷ 0 ∷ 1 ∷ 2 ∷ 0 ∷ 2 ∷ 0 ∷ 1 ∷ 1 ∷ 1 ∷ 2 ∷ 0 ∷ 3 ∷ 23 ∷ 0 ∷ 20 ∷ 0 ∷ 16 ∷ 0 ∷ 7 ∷ 0 ∷ 4 ∷ 0 ∷ 1 ∷ 0 ∷ []

abbrev Q : List ℕ
Q = 0 ∷ 1 ∷ 2 ∷ 1 ∷ 0 ∷ 2 ∷ 0 ∷ 0 ∷ 1 ∷ 1 ∷ 0 ∷ 1 ∷ 0 ∷ 1 ∷ 1 ∷ 1 ∷ 2 ∷ 0 ∷ 2 ∷ 19 ∷ 0 ∷ 16 ∷ 0 ∷ 13 ∷ 0 ∷ 7 ∷ 0 ∷ 4 ∷ 0 ∷ 1 ∷ 0 ∷ []

-- T without its return, which accepts nothing; T with a second target of its return; T with a second initial state; other symbols, two initial states
abbrev N : List ℕ
N = 0 ∷ 1 ∷ 2 ∷ 1 ∷ 0 ∷ 0 ∷ 2 ∷ 0 ∷ 0 ∷ 2 ∷ 1 ∷ 0 ∷ 1 ∷ 2 ∷ 0 ∷ 2 ∷ 0 ∷ 1 ∷ 1 ∷ 19 ∷ 0 ∷ 16 ∷ 0 ∷ 12 ∷ 0 ∷ 3 ∷ 0 ∷ 0 ∷ 0 ∷ 1 ∷ 0 ∷ []

abbrev C : List ℕ
C = 0 ∷ 1 ∷ 2 ∷ 1 ∷ 0 ∷ 0 ∷ 2 ∷ 0 ∷ 0 ∷ 2 ∷ 1 ∷ 0 ∷ 1 ∷ 2 ∷ 0 ∷ 2 ∷ 0 ∷ 1 ∷ 1 ∷ 1 ∷ 2 ∷ 0 ∷ 0 ∷ 1 ∷ 2 ∷ 0 ∷ 3 ∷ 27 ∷ 0 ∷ 24 ∷ 0 ∷ 20 ∷ 0 ∷ 11 ∷ 0 ∷ 8 ∷ 0 ∷ 1 ∷ 0 ∷ []

abbrev I : List ℕ
I = 0 ∷ 1 ∷ 2 ∷ 1 ∷ 1 ∷ 0 ∷ 2 ∷ 0 ∷ 0 ∷ 2 ∷ 1 ∷ 0 ∷ 1 ∷ 2 ∷ 0 ∷ 2 ∷ 0 ∷ 1 ∷ 1 ∷ 1 ∷ 2 ∷ 0 ∷ 3 ∷ 23 ∷ 0 ∷ 20 ∷ 0 ∷ 16 ∷ 0 ∷ 7 ∷ 0 ∷ 4 ∷ 0 ∷ 1 ∷ 0 ∷ []

abbrev K : List ℕ
K = 0 ∷ 1 ∷ 1 ∷ 1 ∷ 1 ∷ 5 ∷ 0 ∷ 2 ∷ 0 ∷ 0 ∷ 0 ∷ 0 ∷ 0 ∷ 0 ∷ 0 ∷ 1 ∷ 0 ∷ []

-- a country with any number of pans inside, and one with none
abbrev F : List ℕ
F = 0 ∷ 1 ∷ 2 ∷ 3 ∷ 0 ∷ 1 ∷ 0 ∷ 1 ∷ 0 ∷ 1 ∷ 1 ∷ 1 ∷ 2 ∷ 0 ∷ 0 ∷ 15 ∷ 0 ∷ 12 ∷ 0 ∷ 10 ∷ 0 ∷ 7 ∷ 0 ∷ 4 ∷ 0 ∷ 1 ∷ 0 ∷ []

abbrev S : List ℕ
S = 0 ∷ 1 ∷ 2 ∷ 3 ∷ 0 ∷ 0 ∷ 1 ∷ 1 ∷ 1 ∷ 2 ∷ 0 ∷ 0 ∷ 12 ∷ 0 ∷ 9 ∷ 0 ∷ 7 ∷ 0 ∷ 7 ∷ 0 ∷ 4 ∷ 0 ∷ 1 ∷ 0 ∷ []

abbrev answers : List (Result Bool Refusal)
answers =
    -- a table with itself, with its quotient, and back
    fit_of T T
    ∷ fit_of T Q
    ∷ fit_of Q T
    -- nothing fits in all, and T does not fit in nothing; `c r c r` is one of C's; no run from I's second initial state ends
    ∷ fit_of N T
    ∷ fit_of T N
    ∷ fit_of C T
    ∷ fit_of I T
    -- the first's refusal, the second's, 37 before 38, 38 for two targets and for two initial states
    ∷ fit_of [] K
    ∷ fit_of T []
    ∷ fit_of T K
    ∷ fit_of T C
    ∷ fit_of T I
    -- stuck inside the country, the second does not come back with the return
    ∷ fit_of F S
    ∷ fit_of S F
    ∷ []

values : map (values_in yes_values) answers ≡ (1 ∷ []) ∷ (1 ∷ []) ∷ (1 ∷ []) ∷ (1 ∷ []) ∷ (0 ∷ []) ∷ (0 ∷ []) ∷ (1 ∷ []) ∷ [] ∷ [] ∷ [] ∷ [] ∷ [] ∷ (0 ∷ []) ∷ (1 ∷ []) ∷ []
unfolding filter parts upto same first_failed has_bit has longest word16 trailer distance version start records table_of limits_fit length_fits version_fits distances_fit counts_fit state_byte_most bytes_fit is_initial is_accepting start_fits record_fits records_fit before ascend_from ascend order_fits table_tests read_number targets add by_internals by_calls live by_returns round rounds start_words top_words_at bit_of after pair_move pair_moves pair_return pair_returns pair_byte pair_table ends fits one_target one_initial no_choice same_symbols fit_number fit_of every first_with refusal
values = refl

numbers : map number_in answers ≡ 0 ∷ 0 ∷ 0 ∷ 0 ∷ 0 ∷ 0 ∷ 0 ∷ 1 ∷ 1 ∷ 37 ∷ 38 ∷ 38 ∷ 0 ∷ 0 ∷ []
unfolding filter parts upto same first_failed has_bit has longest word16 trailer distance version start records table_of limits_fit length_fits version_fits distances_fit counts_fit state_byte_most bytes_fit is_initial is_accepting start_fits record_fits records_fit before ascend_from ascend order_fits table_tests read_number targets add by_internals by_calls live by_returns round rounds start_words top_words_at bit_of after pair_move pair_moves pair_return pair_returns pair_byte pair_table ends fits one_target one_initial no_choice same_symbols fit_number fit_of every first_with refusal
numbers = refl
