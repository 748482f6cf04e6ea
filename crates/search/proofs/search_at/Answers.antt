-- `search::search_at` meets its contract: each way out by its refusal or its outcome.
-- Assumes nothing.
use borrow.Author.Rules.{rules}
use mathlib.Core.List.{List, ◌++◌}
use Prim.Native.Nat.{ℕ, ◌≤◌}
use mathlib.Core.Bool.{true, false}
use mathlib.Core.Path.{◌≡◌, sym, ap, ◌∙◌}
use Rattle.search_spec.specs.Answers.{list_fits}
use Rattle.search_spec.proofs.Answers as answers
use Rattle.sat_solve.proofs.Prefixes as prefixes
use Rattle.search.proofs.Answering as laws
use Rattle.lists.specs.Lists.{over}
use lib.ListN.{length, take, drop}
use Rattle.search.proofs.search_at.Goals as goal

-- ---- the needs

-- a copy to the front of a buffer, as the library's copying says it
copied_front : (n : ℕ) (vs a : List ℕ) {new : List ℕ} → new ≡ vs → length vs ≡ n → new ++ drop n a ≡ over vs a
unfolding over
copied_front n vs a e l = rw (e, l)

pub returns-then-most-variables : goal.returns-then-most-variables
returns-then-most-variables c =
    let the_facts = answers.promised _ _ _ _ _ (answers.refuse_list _ _ _ _ _ (answers.list_many _ _ _ c.if-most-variables.true)) in
    record { answers = the_facts.0; sound = the_facts.1 }

pub list_fits-requires : goal.list_fits-requires
list_fits-requires c =
    let room : c.args.variables ≤ 780 = laws.room c.if-most-variables.false c.requires in
    room

pub returns-then-not-list_fits : goal.returns-then-not-list_fits
returns-then-not-list_fits c =
    let unfit = answers.list_as _ _ _ c.if-most-variables.false false (sym c.list_fits.ensures ∙ c.if-not-list_fits.true) in
    let the_facts = answers.promised _ _ _ _ _ (answers.refuse_list _ _ _ _ _ unfit) in
    record { answers = the_facts.0; sound = the_facts.1 }

pub returns-then-answer-variables : goal.returns-then-answer-variables
returns-then-answer-variables c =
    let fits : list_fits c.args.most c.args.list.now c.args.variables ≡ true = answers.list_as _ _ _ c.if-most-variables.false true (sym c.list_fits.ensures ∙ c.if-not-list_fits.false) in
    let the_facts = answers.promised _ _ _ _ _ (answers.refuse_short _ _ _ _ _ fits c.if-answer-variables.true) in
    record { answers = the_facts.0; sound = the_facts.1 }

pub slice_bounds-values-end : goal.slice_bounds-values-end
slice_bounds-values-end c =
    let room : c.args.variables ≤ 780 = laws.room c.if-most-variables.false c.requires in
    let h = room in search rules

pub slice_bounds-solve-end : goal.slice_bounds-solve-end
slice_bounds-solve-end c =
    let room : c.args.variables ≤ 780 = laws.room c.if-most-variables.false c.requires in
    let size : let n = c.args.variables in length (take n c.none_set-values.result) ≡ n = prefixes.prefix_length _ room c.none_set-values.ensures in
    sym size

pub solve-end-requires : goal.solve-end-requires
solve-end-requires c =
    let room : c.args.variables ≤ 780 = laws.room c.if-most-variables.false c.requires in
    let fits : list_fits c.args.most c.args.list.now c.args.variables ≡ true = answers.list_as _ _ _ c.if-most-variables.false true (sym c.list_fits.ensures ∙ c.if-not-list_fits.false) in
    let f = answers.list-formed _ _ _ fits in
    prefixes.fresh _ room c.none_set-values.ensures f.1 f.2

pub slice_bounds-values-end-in-Found : goal.slice_bounds-values-end-in-Found
slice_bounds-values-end-in-Found c =
    let room : c.args.variables ≤ 780 = laws.room c.if-most-variables.false c.requires in
    let values : List ℕ = c.solve-end.new.values in
    let whole : List ℕ = values ++ drop c.args.variables c.none_set-values.result in
    let back : let n = c.args.variables in (n ≤ length whole) × (take n whole ≡ values) × (length (take n whole) ≡ n) = let n = c.args.variables in
    let h = room in
    let e = c.none_set-values.ensures in
    let k = c.solve-end.auto.values in
    (prefixes.prefix_room n h e values k, prefixes.prefix_values n h e values k, prefixes.prefix_size n h e values k) in
    back.0

pub returns-in-Found : goal.returns-in-Found
returns-in-Found c =
    let fits : list_fits c.args.most c.args.list.now c.args.variables ≡ true = answers.list_as _ _ _ c.if-most-variables.false true (sym c.list_fits.ensures ∙ c.if-not-list_fits.false) in
    let room : c.args.variables ≤ 780 = laws.room c.if-most-variables.false c.requires in
    let size : let n = c.args.variables in length (take n c.none_set-values.result) ≡ n = prefixes.prefix_length _ room c.none_set-values.ensures in
    let values : List ℕ = c.solve-end.new.values in
    let whole : List ℕ = values ++ drop c.args.variables c.none_set-values.result in
    let back : let n = c.args.variables in (n ≤ length whole) × (take n whole ≡ values) × (length (take n whole) ≡ n) = let n = c.args.variables in
    let h = room in
    let e = c.none_set-values.ensures in
    let k = c.solve-end.auto.values in
    (prefixes.prefix_room n h e values k, prefixes.prefix_values n h e values k, prefixes.prefix_size n h e values k) in
    let a = c.args.answer.now in
    let the_facts = let found = laws.is_found _ _ _ _ _ _ size c.solve-end.ensures c.in-Found.is in
    let written = copied_front c.args.variables values a (c.copy_from_slice.ensures.after ∙ back.1) (ap length (sym back.1) ∙ back.2) in
    answers.promised _ _ _ _ _ (answers.answer-found _ _ _ _ _ fits c.if-answer-variables.false found written) in
    record { answers = the_facts.0; sound = the_facts.1 }

pub returns-in-Absent : goal.returns-in-Absent
returns-in-Absent c =
    let fits : list_fits c.args.most c.args.list.now c.args.variables ≡ true = answers.list_as _ _ _ c.if-most-variables.false true (sym c.list_fits.ensures ∙ c.if-not-list_fits.false) in
    let room : c.args.variables ≤ 780 = laws.room c.if-most-variables.false c.requires in
    let size : let n = c.args.variables in length (take n c.none_set-values.result) ≡ n = prefixes.prefix_length _ room c.none_set-values.ensures in
    let absent = laws.is_absent _ _ _ _ _ _ size c.solve-end.ensures c.in-Absent.is in
    let the_facts = answers.promised _ _ _ _ _ (answers.answer_absent _ _ _ _ _ fits c.if-answer-variables.false absent) in
    record { answers = the_facts.0; sound = the_facts.1 }

pub returns-in-Spent : goal.returns-in-Spent
returns-in-Spent c =
    let fits : list_fits c.args.most c.args.list.now c.args.variables ≡ true = answers.list_as _ _ _ c.if-most-variables.false true (sym c.list_fits.ensures ∙ c.if-not-list_fits.false) in
    let room : c.args.variables ≤ 780 = laws.room c.if-most-variables.false c.requires in
    let size : let n = c.args.variables in length (take n c.none_set-values.result) ≡ n = prefixes.prefix_length _ room c.none_set-values.ensures in
    let spent = laws.is_spent_lem _ _ _ _ _ _ size c.solve-end.ensures c.in-Spent.is in
    let the_facts = answers.promised _ _ _ _ _ (answers.answer-spent _ _ _ _ _ fits c.if-answer-variables.false spent) in
    record { answers = the_facts.0; sound = the_facts.1 }
