-- Examples of reading: one list of what the definitions answer, computed by the checker, and one list of what documents 01 and 02 say. Where two
-- refusals apply, the first one listed is given. Assumes nothing.
use mathlib.Core.Path.{◌≡◌, refl}
use mathlib.Core.List.{List, [], ◌∷◌, ◌++◌, map}
use Prim.Native.Nat.{ℕ}
use lib.ListN.{replicate}
use Rattle.lists.specs.Lists.{parts, concat_map, first_failed}
use Rattle.limits.specs.declared.Limits.{Limits}
use Rattle.limits.specs.Limits.{limits_fit}
use Rattle.limits.specs.Limits.{standard}
use Rattle.table_spec.specs.Limits.{longest}
use Rattle.table_spec.specs.File.{word16, trailer, distance, version, start, records, table_of, bytes16}
use Rattle.refusals.specs.Refusals.{values_in}
use Rattle.table_spec.specs.Reading.{length_fits, version_fits, distances_fit, counts_fit, state_byte_most, bytes_fit, is_initial, start_fits, record_fits, records_fit, before, ascend_from, ascend, order_fits, table_tests, read_number, starts_of, read_of, start_values}

-- sections, the five distances and the version
abbrev file : List ℕ → ℕ → ℕ → ℕ → ℕ → ℕ → ℕ → List ℕ
file b d0 d1 d2 d3 d4 v = b ++ concat_map bytes16 (d0 ∷ d1 ∷ d2 ∷ d3 ∷ d4 ∷ v ∷ [])

-- "Table T"
abbrev T : List ℕ
T =
    file
    (0 ∷ 1 ∷ 2 ∷ 1 ∷ 0 ∷ 0 ∷ 2 ∷ 0 ∷ 0 ∷ 2 ∷ 1 ∷ 0 ∷ 1 ∷ 2 ∷ 0 ∷ 2 ∷ 0 ∷ 1 ∷ 1 ∷ 1 ∷ 2 ∷ 0 ∷ 3 ∷ [])
    23
    20
    16
    7
    4
    1

-- each file and its number
abbrev files : List (List ℕ)
files =
    -- T, and the shortest table: one initial state
    T
    ∷ file (1 ∷ []) 1 1 0 0 0 1
    -- "11 bytes give 1", and the version is 0; one byte too many; the longest file that is not
    ∷ replicate 11 0
    ∷ replicate 22597 0
    ∷ replicate 22596 0
    -- version 3, and the first distance is not the length less 12; the version is the whole 16-bit number
    ∷ file [] 1 0 0 0 0 3
    ∷ file (1 ∷ []) 1 1 0 0 0 257
    ∷ file (1 ∷ []) 1 1 0 0 0 258
    -- a first distance short by one, and no state
    ∷ file (1 ∷ []) 0 0 0 0 0 1
    -- distances rising, and no state
    ∷ file (1 ∷ []) 1 1 1 1 2 1
    -- two bytes of internals, of calls, of returns, and no state
    ∷ file (1 ∷ 1 ∷ []) 2 2 2 0 0 1
    ∷ file (1 ∷ 1 ∷ []) 2 2 2 2 0 1
    ∷ file (1 ∷ 1 ∷ []) 2 2 2 2 2 1
    -- "a trailer alone with five zero distances and version 1 gives 4"; no state, and a symbol byte 3
    ∷ file [] 0 0 0 0 0 1
    ∷ file (3 ∷ []) 1 0 0 0 0 1
    -- 25 states, of which none is initial
    ∷ file (replicate 25 0) 25 25 0 0 0 1
    -- a state byte 4, which is not initial; 64 in version 2
    ∷ file (4 ∷ []) 1 1 0 0 0 1
    ∷ file (64 ∷ []) 1 1 0 0 0 2
    -- request (v): a state byte 63 in version 2, and in version 1; 62, which is not initial
    ∷ file (63 ∷ []) 1 1 0 0 0 2
    ∷ file (63 ∷ []) 1 1 0 0 0 1
    ∷ file (62 ∷ []) 1 1 0 0 0 2
    -- no initial state, and an internal whose symbol is past the count
    ∷ file (0 ∷ 0 ∷ 0 ∷ 0 ∷ []) 4 4 3 0 0 1
    -- two equal internals whose symbol is past the count; whose symbol is a call
    ∷ file (1 ∷ 0 ∷ 0 ∷ 0 ∷ 0 ∷ 0 ∷ 0 ∷ []) 7 7 6 0 0 1
    ∷ file (1 ∷ 1 ∷ 0 ∷ 0 ∷ 0 ∷ 0 ∷ 0 ∷ 0 ∷ []) 8 7 6 0 0 1
    -- two equal internals, calls, returns
    ∷ file (0 ∷ 1 ∷ 0 ∷ 0 ∷ 0 ∷ 0 ∷ 0 ∷ 0 ∷ []) 8 7 6 0 0 1
    ∷ file (1 ∷ 1 ∷ 0 ∷ 0 ∷ 0 ∷ 0 ∷ 0 ∷ 0 ∷ []) 8 7 6 6 0 1
    ∷ file (2 ∷ 1 ∷ 0 ∷ 0 ∷ 0 ∷ 0 ∷ 0 ∷ 0 ∷ 0 ∷ 0 ∷ []) 10 9 8 8 8 1
    ∷ []

numbers : map (read_number standard) files ≡ 0 ∷ 0 ∷ 1 ∷ 1 ∷ 2 ∷ 2 ∷ 2 ∷ 2 ∷ 3 ∷ 3 ∷ 3 ∷ 3 ∷ 3 ∷ 4 ∷ 4 ∷ 4 ∷ 5 ∷ 5 ∷ 0 ∷ 5 ∷ 6 ∷ 6 ∷ 7 ∷ 7 ∷ 8 ∷ 8 ∷ 8 ∷ []
unfolding parts first_failed limits_fit longest word16 trailer distance version start records table_of bytes16 length_fits version_fits distances_fit counts_fit state_byte_most bytes_fit is_initial start_fits record_fits records_fit before ascend_from ascend order_fits table_tests read_number
numbers = refl

abbrev within : ℕ → ℕ → Limits
within states symbols = record { states = states; symbols = symbols }

-- "39 for a limit of zero or past its maximum comes first"; "1, 4 .. read the limits in force": the longest file of all, and 25 states
limited :
    read_number (within 0 32) (replicate 11 0)
    ∷ read_number (within 41 32) (replicate 11 0)
    ∷ read_number (within 24 0) (replicate 11 0)
    ∷ read_number (within 24 65) (replicate 11 0)
    ∷ read_number (within 40 64) (replicate 22645 0)
    ∷ read_number (within 40 64) (replicate 22644 0)
    ∷ read_number (within 40 64) (file (replicate 25 0) 25 25 0 0 0 1)
    ∷ read_number (within 3 64) T
    ∷ read_number (within 4 3) T
    ∷ []
    ≡ 39 ∷ 39 ∷ 39 ∷ 39 ∷ 1 ∷ 2 ∷ 6 ∷ 4 ∷ 0 ∷ []
unfolding parts first_failed limits_fit longest word16 trailer distance version start records table_of bytes16 length_fits version_fits distances_fit counts_fit state_byte_most bytes_fit is_initial start_fits record_fits records_fit before ascend_from ascend order_fits table_tests read_number
limited = refl

-- "Reading answers the five section starts."
starts_of-T : values_in start_values (read_of standard T) ≡ 0 ∷ 3 ∷ 7 ∷ 16 ∷ 19 ∷ []
unfolding parts first_failed limits_fit longest word16 trailer distance version start records table_of bytes16 length_fits version_fits distances_fit counts_fit state_byte_most bytes_fit is_initial start_fits record_fits records_fit before ascend_from ascend order_fits table_tests read_number starts_of read_of
starts_of-T = refl
