-- Examples of where records go: one list of what the definitions answer, computed by the checker, and one list of what document 02 says: number,
-- N, K, F, D, and the bytes of an output of 7 bytes. Assumes nothing.
use mathlib.Core.Path.{◌≡◌, refl}
use mathlib.Core.List.{List, [], ◌∷◌, ◌++◌}
use Prim.Native.Nat.{ℕ}
use lib.ListN.{replicate}
use Rattle.lists.specs.Lists.{filter, upto, same, parts, over, first_failed}
use Rattle.lists.specs.Bits.{has, has_bit}
use Rattle.limits.specs.Limits.{standard, limits_fit}
use Rattle.table_spec.specs.Limits.{longest}
use Rattle.table_spec.specs.File.{Table, word16, trailer, distance, version, start, records, table_of, bytes16, from_returns, from_calls, from_internals, from_states, from_symbols, trailer_of, bytes_of}
use Rattle.table_spec.specs.Reading.{length_fits, version_fits, distances_fit, counts_fit, state_byte_most, bytes_fit, is_initial, start_fits, record_fits, records_fit, before, ascend_from, ascend, order_fits, table_tests, read_number}
use Rattle.table_spec.specs.Language.{agreed_on, targets}
use Rattle.table_spec.specs.Maps.{joins, numbered_from, numbered}
use Rattle.tops_spec.specs.Tops.{add, by_internals, by_calls, live, by_returns, round, rounds, start_words, top_words_at}
use Rattle.check_spec.specs.Check.{labels_agree, move_matched, moves_matched, return_matched, returns_matched, map_tests, check_number}
use Rattle.quotient_spec.specs.Quotient.{image}
use Rattle.refusals.specs.Refusals.{every, first_with, refusal, number_in, values_in}
use Rattle.records_spec.specs.Fates.{taken, fate, fates_behind, fates_of, record_count, having, counts_of, records_number, records_of, count_values}

-- the symbols and states of table T, with these records
abbrev T-with : List (List ℕ) → List (List ℕ) → List (List ℕ) → Table
T-with internals calls returns = record { version = 1; symbols = 0 ∷ 1 ∷ 2 ∷ []; states = 1 ∷ 0 ∷ 0 ∷ 2 ∷ []; internals = internals; calls = calls; returns = returns }

abbrev pans : List (List ℕ)
pans = (0 ∷ 0 ∷ 2 ∷ []) ∷ (1 ∷ 0 ∷ 1 ∷ []) ∷ (2 ∷ 0 ∷ 2 ∷ []) ∷ []

going : Table → List ℕ → ℕ → List ℕ
going t m room = let a = records_of standard (bytes_of t) m (replicate room 7) in (number_in a.answer ∷ values_in count_values a.answer) ++ a.out

pub answers : List (List ℕ)
answers =
    -- "for T": by 0 1 1 2, by a map that joins nothing, and with one byte too few
    going (T-with pans ((0 ∷ 1 ∷ 1 ∷ []) ∷ []) ((1 ∷ 2 ∷ 0 ∷ 3 ∷ []) ∷ [])) (0 ∷ 1 ∷ 1 ∷ 2 ∷ []) 7
    ∷ going (T-with pans ((0 ∷ 1 ∷ 1 ∷ []) ∷ []) ((1 ∷ 2 ∷ 0 ∷ 3 ∷ []) ∷ [])) (0 ∷ 1 ∷ 2 ∷ 3 ∷ []) 7
    ∷ going (T-with pans ((0 ∷ 1 ∷ 1 ∷ []) ∷ []) ((1 ∷ 2 ∷ 0 ∷ 3 ∷ []) ∷ [])) (0 ∷ 1 ∷ 1 ∷ 2 ∷ []) 4
    -- T with a dead return after: it is dead, though the return before it has its image
    ∷ going (T-with pans ((0 ∷ 1 ∷ 1 ∷ []) ∷ []) ((1 ∷ 2 ∷ 0 ∷ 3 ∷ []) ∷ (2 ∷ 2 ∷ 0 ∷ 3 ∷ []) ∷ [])) (0 ∷ 1 ∷ 1 ∷ 2 ∷ []) 7
    -- a dead return before a live one with its image, which is kept: a dead record folds nothing
    ∷ going (T-with [] ((0 ∷ 1 ∷ 2 ∷ []) ∷ []) ((1 ∷ 2 ∷ 0 ∷ 3 ∷ []) ∷ (2 ∷ 2 ∷ 0 ∷ 3 ∷ []) ∷ [])) (0 ∷ 1 ∷ 1 ∷ 2 ∷ []) 7
    -- two targets in one class, and a call that is folded
    ∷ going (T-with [] ((0 ∷ 1 ∷ 1 ∷ []) ∷ (0 ∷ 1 ∷ 2 ∷ []) ∷ []) []) (0 ∷ 1 ∷ 1 ∷ 2 ∷ []) 7
    -- 20 before 21
    ∷ going (T-with pans ((0 ∷ 1 ∷ 1 ∷ []) ∷ (0 ∷ 1 ∷ 2 ∷ []) ∷ []) ((1 ∷ 2 ∷ 0 ∷ 3 ∷ []) ∷ [])) (0 ∷ 1 ∷ 1 ∷ 2 ∷ []) 0
    ∷ []

pub told :
    answers
    ≡ (0 ∷ 5 ∷ 4 ∷ 1 ∷ 0 ∷ 0 ∷ 0 ∷ 1 ∷ 0 ∷ 0 ∷ 7 ∷ 7 ∷ [])
    ∷ (0 ∷ 5 ∷ 5 ∷ 0 ∷ 0 ∷ 0 ∷ 0 ∷ 0 ∷ 0 ∷ 0 ∷ 7 ∷ 7 ∷ [])
    ∷ (21 ∷ 7 ∷ 7 ∷ 7 ∷ 7 ∷ [])
    ∷ (0 ∷ 6 ∷ 4 ∷ 1 ∷ 1 ∷ 0 ∷ 0 ∷ 1 ∷ 0 ∷ 0 ∷ 2 ∷ 7 ∷ [])
    ∷ (0 ∷ 3 ∷ 2 ∷ 0 ∷ 1 ∷ 0 ∷ 2 ∷ 0 ∷ 7 ∷ 7 ∷ 7 ∷ 7 ∷ [])
    ∷ (0 ∷ 2 ∷ 1 ∷ 1 ∷ 0 ∷ 0 ∷ 1 ∷ 7 ∷ 7 ∷ 7 ∷ 7 ∷ 7 ∷ [])
    ∷ (20 ∷ [])
    ∷ []
unfolding answers going filter upto same parts over first_failed has has_bit limits_fit longest word16 trailer distance version start records table_of bytes16 from_returns from_calls from_internals from_states from_symbols trailer_of bytes_of length_fits version_fits distances_fit counts_fit state_byte_most bytes_fit is_initial start_fits record_fits records_fit before ascend_from ascend order_fits table_tests read_number agreed_on targets joins numbered_from numbered add by_internals by_calls live by_returns round rounds start_words top_words_at labels_agree move_matched moves_matched return_matched returns_matched map_tests check_number image taken fate fates_behind fates_of record_count having counts_of records_number records_of every first_with refusal
told = refl
