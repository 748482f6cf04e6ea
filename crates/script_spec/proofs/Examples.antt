-- Examples of reading a script: one list of what the definitions answer, computed by the checker, and one list of what document 02 says. Assumes nothing.
use mathlib.Core.Path.{◌≡◌, refl}
use mathlib.Core.List.{List, [], ◌∷◌, ◌++◌}
use Prim.Native.Nat.{ℕ}
use lib.ListN.{replicate}
use Rattle.lists.specs.Lists.{upto, parts, first_failed}
use Rattle.lists.specs.Bits.{has_bit, has}
use Rattle.limits.specs.Limits.{limits_fit, standard}
use Rattle.vpa.specs.Automata.{open_behind}
use Rattle.refusals.specs.Refusals.{every, first_with, refusal, number_in, values_in}
use Rattle.table_spec.specs.Limits.{longest}
use Rattle.table_spec.specs.File.{word16, trailer, distance, version, start, records, table_of}
use Rattle.table_spec.specs.Reading.{length_fits, version_fits, distances_fit, counts_fit, state_byte_most, bytes_fit, is_initial, is_accepting, start_fits, record_fits, records_fit, before, ascend_from, ascend, order_fits, table_tests, read_number}
use Rattle.tops_spec.specs.Tops.{add, start_words}
use Rattle.script_spec.specs.Script.{gains, gained, gain, by_return, moved, returned, behind, ended, reads, started, symbols_fit, too_deep, script_tests, script_number, answer_by, script_of, yes_values}

-- "Table T"
T : List ℕ
T = 0 ∷ 1 ∷ 2 ∷ 1 ∷ 0 ∷ 0 ∷ 2 ∷ 0 ∷ 0 ∷ 2 ∷ 1 ∷ 0 ∷ 1 ∷ 2 ∷ 0 ∷ 2 ∷ 0 ∷ 1 ∷ 1 ∷ 1 ∷ 2 ∷ 0 ∷ 3 ∷ 23 ∷ 0 ∷ 20 ∷ 0 ∷ 16 ∷ 0 ∷ 7 ∷ 0 ∷ 4 ∷ 0 ∷ 1 ∷ 0 ∷ []

-- two states are reached on the empty stack, and the call leaves one of them: a return over the other has no move
two-below : List ℕ
two-below = 0 ∷ 1 ∷ 2 ∷ 3 ∷ 0 ∷ 0 ∷ 0 ∷ 0 ∷ 0 ∷ 0 ∷ 1 ∷ 1 ∷ 1 ∷ 0 ∷ 0 ∷ 2 ∷ 0 ∷ 0 ∷ 18 ∷ 0 ∷ 15 ∷ 0 ∷ 13 ∷ 0 ∷ 7 ∷ 0 ∷ 4 ∷ 0 ∷ 1 ∷ 0 ∷ []

-- the number, and 1 or 0 where it is 0
answer : List ℕ → List ℕ → List ℕ
answer b w = let r = script_of standard b w in number_in r ∷ values_in yes_values r

examples :
    -- a country, with and without pans; a pan alone; nothing
    answer T (1 ∷ 2 ∷ [])
    ∷ answer T (1 ∷ 0 ∷ 0 ∷ 2 ∷ [])
    ∷ answer T (0 ∷ [])
    ∷ answer T []
    -- a script that leaves something open; a return on the empty stack, which ends it
    ∷ answer T (1 ∷ [])
    ∷ answer T (2 ∷ [])
    ∷ answer T (1 ∷ 2 ∷ 2 ∷ 1 ∷ 2 ∷ [])
    -- which state is reached over which
    ∷ answer two-below (0 ∷ 1 ∷ 2 ∷ [])
    ∷ answer two-below (0 ∷ 0 ∷ [])
    -- "up to 64 calls open", "a 65th open call", with one closed between, and after a return on the empty stack
    ∷ answer T (replicate 64 1)
    ∷ answer T (replicate 65 1)
    ∷ answer T (1 ∷ 2 ∷ replicate 64 1)
    ∷ answer T (2 ∷ replicate 65 1)
    -- "30 a symbol past the count anywhere": after a return on the empty stack, and before 31
    ∷ answer T (2 ∷ 3 ∷ [])
    ∷ answer T (replicate 65 1 ++ (3 ∷ []))
    -- "1 to 8 first"
    ∷ answer [] (3 ∷ [])
    ∷ []
    ≡ (0 ∷ 1 ∷ [])
    ∷ (0 ∷ 1 ∷ [])
    ∷ (0 ∷ 0 ∷ [])
    ∷ (0 ∷ 0 ∷ [])
    ∷ (0 ∷ 0 ∷ [])
    ∷ (0 ∷ 0 ∷ [])
    ∷ (0 ∷ 0 ∷ [])
    ∷ (0 ∷ 0 ∷ [])
    ∷ (0 ∷ 1 ∷ [])
    ∷ (0 ∷ 0 ∷ [])
    ∷ (31 ∷ [])
    ∷ (0 ∷ 0 ∷ [])
    ∷ (0 ∷ 0 ∷ [])
    ∷ (30 ∷ [])
    ∷ (30 ∷ [])
    ∷ (1 ∷ [])
    ∷ []
unfolding T two-below answer upto parts first_failed has_bit has limits_fit open_behind longest word16 trailer distance version start records table_of length_fits version_fits distances_fit counts_fit state_byte_most bytes_fit is_initial is_accepting start_fits record_fits records_fit before ascend_from ascend order_fits table_tests read_number add start_words gains gained gain by_return moved returned behind ended reads started symbols_fit too_deep script_tests script_number answer_by script_of every first_with refusal
examples = refl
