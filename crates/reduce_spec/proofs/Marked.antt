-- The marked cases M1 to M14 of document 01, as document 02 leaves them, and the figures that it gives for table T: one list of what the
-- definitions answer, computed by the checker, and one list of what the documents say. Assumes nothing.
use mathlib.Core.Path.{◌≡◌, refl}
use mathlib.Core.List.{List, [], ◌∷◌, ◌++◌, map}
use Prim.Native.Nat.{ℕ, ◌^◌}
use lib.ListN.{replicate, take}
use lib.Count.{ones_in}
use Rattle.lists.specs.Lists.{filter, upto, mem, same, parts, over, first_failed}
use Rattle.lists.specs.Bits.{has, has_bit, ones_over}
use Rattle.cnf.specs.Clauses.{words_of, clauses_within, clauses_in, whole_within, whole, distinct, clause_fits}
use Rattle.cnf.specs.Search.{is_right, is_unset, by_unset, seen, both, scan, undo, lowest_unset, decide, act, step, run, search_from}
use Rattle.cnf.specs.Trials.{only_true, satisfied, true_count, not_false, better, ceiling_by, rested, tried, run_tried, search_tried}
use Rattle.limits.specs.Limits.{standard, limits_fit}
use Rattle.refusals.specs.Refusals.{number_of, every, first_with, refusal, number_in, one_value, values_in}
use Rattle.std.specs.Prelude.{Ok, Err}
use Rattle.pairs.specs.Pairs.{pairs, variable_of}
use Rattle.pairs.specs.Triangles.{past, triangle, triangles}
use Rattle.table_spec.specs.Limits.{longest}
use Rattle.table_spec.specs.File.{word16, trailer, distance, version, start, records, table_of, bytes16, from_returns, from_calls, from_internals, from_states, from_symbols, trailer_of, bytes_of}
use Rattle.table_spec.specs.Reading.{length_fits, version_fits, distances_fit, counts_fit, state_byte_most, bytes_fit, is_initial, is_accepting, start_fits, record_fits, records_fit, before, ascend_from, ascend, order_fits, table_tests, read_number}
use Rattle.table_spec.specs.Language.{mark_of, agreed_on, targets}
use Rattle.table_spec.specs.Maps.{joins, classes, numbered_from, numbered}
use Rattle.tops_spec.specs.Tops.{add, by_internals, by_calls, live, by_returns, round, rounds, start_words, top_words_at, top_count, tops_of, live_returns}
use Rattle.clauses_spec.specs.Clauses.{opposite, once, tidy, look_clauses, transitivity, premise, matching, move_clause, move_clauses, return_clause, top_states, return_clauses, clause_list, clause_words, short_list, short_words, clauses_number, clauses_of, listed_values}
use Rattle.clauses_spec.specs.Maps.{joined_by, next_class, map_of}
use Rattle.search_spec.specs.Answers.{list_fits, search_number, searched, search_at, search_of}
use Rattle.check_spec.specs.Check.{labels_agree, move_matched, moves_matched, return_matched, returns_matched, map_tests, check_number, check_of}
use Rattle.quotient_spec.specs.Quotient.{image, insert, ascending, images, member_has, bit_of, mark_among, class_mark, class_byte, quotient_table, quotient_bytes, quotient_number, quotient_of}
use Rattle.reduce_spec.specs.Reduce.{before_search, tried_of_table, joined_pairs, deliver, after_search, reduce_of, reduction_values}

-- "Table T, 35 bytes"
abbrev pub T : List ℕ
T =
    0x00 ∷ 0x01 ∷ 0x02
    ∷ 0x01 ∷ 0x00 ∷ 0x00 ∷ 0x02
    ∷ 0x00 ∷ 0x00 ∷ 0x02 ∷ 0x01 ∷ 0x00 ∷ 0x01 ∷ 0x02 ∷ 0x00 ∷ 0x02
    ∷ 0x00 ∷ 0x01 ∷ 0x01
    ∷ 0x01 ∷ 0x02 ∷ 0x00 ∷ 0x03
    ∷ 0x17 ∷ 0x00 ∷ 0x14 ∷ 0x00 ∷ 0x10 ∷ 0x00 ∷ 0x07 ∷ 0x00 ∷ 0x04 ∷ 0x00 ∷ 0x01 ∷ 0x00
    ∷ []

-- "T with call 00 01 02 added"
abbrev pub T-call : List ℕ
T-call = take 19 T ++ (0x00 ∷ 0x01 ∷ 0x02 ∷ 0x01 ∷ 0x02 ∷ 0x00 ∷ 0x03 ∷ 0x1a ∷ 0x00 ∷ 0x17 ∷ 0x00 ∷ 0x13 ∷ 0x00 ∷ 0x0a ∷ 0x00 ∷ 0x04 ∷ 0x00 ∷ 0x01 ∷ 0x00 ∷ [])

-- "with return 02 02 00 03 added to T"
abbrev pub T-return : List ℕ
T-return = take 23 T ++ (0x02 ∷ 0x02 ∷ 0x00 ∷ 0x03 ∷ 0x1b ∷ 0x00 ∷ 0x18 ∷ 0x00 ∷ 0x14 ∷ 0x00 ∷ 0x0b ∷ 0x00 ∷ 0x08 ∷ 0x00 ∷ 0x01 ∷ 0x00 ∷ [])

-- three states, no records (request (viii))
abbrev pub three : List ℕ
three = 0x01 ∷ 0x00 ∷ 0x00 ∷ 0x03 ∷ 0x00 ∷ 0x03 ∷ 0x00 ∷ 0x00 ∷ 0x00 ∷ 0x00 ∷ 0x00 ∷ 0x00 ∷ 0x00 ∷ 0x01 ∷ 0x00 ∷ []

-- two states "named" and one "located", all accepting, in version 2 (request (v))
abbrev pub named : List ℕ
named = 0x01 ∷ 0x06 ∷ 0x06 ∷ 0x0a ∷ 0x04 ∷ 0x00 ∷ 0x04 ∷ 0x00 ∷ 0x00 ∷ 0x00 ∷ 0x00 ∷ 0x00 ∷ 0x00 ∷ 0x00 ∷ 0x02 ∷ 0x00 ∷ []

-- an answer as one list: the number, then the values
topping : List ℕ → List ℕ
topping b = elim (tops_of standard b) [ Ok r ↦ 0 ∷ r.found ∷ r.words | Err r ↦ number_of r ∷ [] ]

checked : List ℕ → List ℕ → List ℕ
checked b m = let a = check_of standard b m in number_in a ∷ values_in one_value a

searching : ℕ → List ℕ → List ℕ
searching n ws = let a = search_of standard ws n 9 (replicate n 7) in (number_in a.solution ∷ values_in one_value a.solution) ++ a.answer

writing : List ℕ → List ℕ → List ℕ
writing b m = let a = quotient_of standard b m (replicate 40 7) in (number_in a.answer ∷ values_in one_value a.answer) ++ a.out

reducing : List ℕ → ℕ → ℕ → ℕ → ℕ → List ℕ
reducing b budget words states bytes = let a = reduce_of standard b budget (replicate words 7) (replicate states 7) (replicate bytes 7) in (number_in a.answer ∷ values_in reduction_values a.answer) ++ a.map ++ a.out

pub answers : List (List ℕ)
answers =
    topping T
    ∷ checked T (0 ∷ 1 ∷ 1 ∷ 2 ∷ [])
    ∷ checked T (0 ∷ 1 ∷ 1 ∷ 1 ∷ [])
    ∷ checked T (0 ∷ 0 ∷ 1 ∷ 2 ∷ [])
    ∷ checked T (0 ∷ 1 ∷ 0 ∷ 2 ∷ [])
    ∷ checked T (0 ∷ 2 ∷ 1 ∷ 1 ∷ [])
    ∷ checked T (0 ∷ 1 ∷ 1 ∷ [])
    ∷ checked T-call (0 ∷ 1 ∷ 1 ∷ 2 ∷ [])
    ∷ reducing T 0 100 4 35
    ∷ searching 2 (2 ∷ 0 ∷ 2 ∷ [])
    ∷ searching 2 (2 ∷ 0 ∷ 2 ∷ 2 ∷ 1 ∷ 3 ∷ [])
    ∷ searching 0 (0 ∷ [])
    ∷ writing T (0 ∷ 1 ∷ 2 ∷ 3 ∷ [])
    ∷ writing T-return (0 ∷ 1 ∷ 2 ∷ 3 ∷ [])
    ∷ (let a = clauses_of standard T (replicate 72 7) in number_in a.answer ∷ values_in listed_values a.answer)
    ∷ reducing T 100000 32768 5 33
    ∷ reducing three 1 0 3 14
    ∷ checked named (0 ∷ 1 ∷ 1 ∷ 1 ∷ [])
    ∷ reducing named 9 10 4 15
    ∷ []

pub said : List (List ℕ)
said =
    (0 ∷ 4 ∷ 2 ^ 40 ∷ 1 ∷ 2 ^ 40 ∷ 2 ^ 40 ∷ replicate 36 0)
    ∷ (0 ∷ 3 ∷ [])
    ∷ (17 ∷ [])
    ∷ (18 ∷ [])
    ∷ (19 ∷ [])
    ∷ (16 ∷ [])
    ∷ (15 ∷ [])
    ∷ (20 ∷ [])
    ∷ ((0 ∷ 4 ∷ 0 ∷ 24 ∷ 35 ∷ 0 ∷ 1 ∷ 1 ∷ 0 ∷ 1 ∷ 2 ∷ 3 ∷ []) ++ T)
    ∷ (0 ∷ 2 ∷ 1 ∷ 1 ∷ [])
    ∷ (0 ∷ 1 ∷ 1 ∷ 0 ∷ [])
    ∷ (12 ∷ [])
    ∷ ((0 ∷ 35 ∷ T) ++ replicate 5 7)
    ∷ ((0 ∷ 35 ∷ T) ++ replicate 5 7)
    ∷ (0 ∷ 23 ∷ 72 ∷ [])
    ∷ ((0 ∷ 3 ∷ 1 ∷ 24 ∷ 31 ∷ 1 ∷ 1 ∷ 0 ∷ 0 ∷ 1 ∷ 1 ∷ 2 ∷ 7 ∷ [])
    ++ (0x00 ∷ 0x01 ∷ 0x02 ∷ 0x01 ∷ 0x00 ∷ 0x02 ∷ 0x00 ∷ 0x00 ∷ 0x01 ∷ 0x01 ∷ 0x00 ∷ 0x01 ∷ 0x00 ∷ 0x01 ∷ 0x01 ∷ 0x01 ∷ 0x02 ∷ 0x00 ∷ 0x02
    ∷ 0x13 ∷ 0x00 ∷ 0x10 ∷ 0x00 ∷ 0x0d ∷ 0x00 ∷ 0x07 ∷ 0x00 ∷ 0x04 ∷ 0x00 ∷ 0x01 ∷ 0x00 ∷ 7 ∷ 7 ∷ []))
    ∷ ((0 ∷ 2 ∷ 1 ∷ 0 ∷ 14 ∷ 1 ∷ 3 ∷ 1 ∷ 0 ∷ 0 ∷ 1 ∷ [])
    ++ (0x01 ∷ 0x00 ∷ 0x02 ∷ 0x00 ∷ 0x02 ∷ 0x00 ∷ 0x00 ∷ 0x00 ∷ 0x00 ∷ 0x00 ∷ 0x00 ∷ 0x00 ∷ 0x01 ∷ 0x00 ∷ []))
    ∷ (17 ∷ [])
    ∷ ((0 ∷ 3 ∷ 1 ∷ 10 ∷ 15 ∷ 1 ∷ 1 ∷ 0 ∷ 0 ∷ 1 ∷ 1 ∷ 2 ∷ [])
    ++ (0x01 ∷ 0x06 ∷ 0x0a ∷ 0x03 ∷ 0x00 ∷ 0x03 ∷ 0x00 ∷ 0x00 ∷ 0x00 ∷ 0x00 ∷ 0x00 ∷ 0x00 ∷ 0x00 ∷ 0x02 ∷ 0x00 ∷ []))
    ∷ []

-- M1 to M14 (M9 as request (viii) has it), the clause count and word count of T, what the program prints for T, three states with one guess,
-- whose budget is found spent at a rest with one pair joined, and of request (v), that "named" and "located" are never joined, and a quotient of version 2
pub marked : answers ≡ said
unfolding answers said topping checked searching writing reducing filter upto mem same parts over first_failed limits_fit has has_bit ones_over ones_in words_of clauses_within clauses_in whole_within whole distinct clause_fits is_right is_unset by_unset seen both scan undo lowest_unset decide act step run search_from only_true satisfied true_count not_false better ceiling_by rested tried run_tried search_tried longest word16 trailer distance version start records table_of bytes16 from_returns from_calls from_internals from_states from_symbols trailer_of bytes_of length_fits version_fits distances_fit counts_fit state_byte_most bytes_fit is_initial is_accepting start_fits record_fits records_fit before ascend_from ascend order_fits table_tests read_number mark_of agreed_on targets joins classes numbered_from numbered add by_internals by_calls live by_returns round rounds start_words top_words_at top_count tops_of live_returns pairs variable_of opposite once tidy look_clauses past triangle triangles transitivity premise matching move_clause move_clauses return_clause top_states return_clauses clause_list clause_words short_list short_words clauses_number clauses_of joined_by next_class map_of list_fits search_number searched search_at search_of labels_agree move_matched moves_matched return_matched returns_matched map_tests check_number check_of image insert ascending images member_has bit_of mark_among class_mark class_byte quotient_table quotient_bytes quotient_number quotient_of before_search tried_of_table joined_pairs deliver after_search reduce_of every first_with refusal
marked = refl

-- the order of reduce's refusals: an unreadable table before a short map buffer, that before a short clause buffer, and that before a short
-- output, judged on the map delivered: 35 bytes where no guess is permitted, else 31
pub order : map (λ a. number_in a.answer) (reduce_of standard [] 0 [] [] [] ∷ reduce_of standard T 0 [] [] [] ∷ reduce_of standard T 0 (replicate 23 0) (replicate 4 0) [] ∷ reduce_of standard T 0 (replicate 24 0) (replicate 4 0) (replicate 34 0) ∷ reduce_of standard T 0 (replicate 24 0) (replicate 4 0) (replicate 35 0) ∷ reduce_of standard T 1 (replicate 24 0) (replicate 4 0) (replicate 30 0) ∷ reduce_of standard T 1 (replicate 24 0) (replicate 4 0) (replicate 31 0) ∷ []) ≡ 1 ∷ 22 ∷ 10 ∷ 21 ∷ 0 ∷ 21 ∷ 0 ∷ []
unfolding filter upto mem same parts over first_failed limits_fit has has_bit ones_over ones_in words_of clauses_within clauses_in whole_within whole distinct clause_fits is_right is_unset by_unset seen both scan undo lowest_unset decide act step run search_from only_true satisfied true_count not_false better ceiling_by rested tried run_tried search_tried longest word16 trailer distance version start records table_of bytes16 from_returns from_calls from_internals from_states from_symbols trailer_of bytes_of length_fits version_fits distances_fit counts_fit state_byte_most bytes_fit is_initial is_accepting start_fits record_fits records_fit before ascend_from ascend order_fits table_tests read_number mark_of agreed_on targets joins classes numbered_from numbered add by_internals by_calls live by_returns round rounds start_words top_words_at top_count tops_of live_returns pairs variable_of opposite once tidy look_clauses past triangle triangles transitivity premise matching move_clause move_clauses return_clause top_states return_clauses clause_list clause_words short_list short_words clauses_number clauses_of joined_by next_class map_of list_fits search_number searched search_at search_of labels_agree move_matched moves_matched return_matched returns_matched map_tests check_number check_of image insert ascending images member_has bit_of mark_among class_mark class_byte quotient_table quotient_bytes quotient_number quotient_of before_search tried_of_table joined_pairs deliver after_search reduce_of every first_with refusal
order = refl
