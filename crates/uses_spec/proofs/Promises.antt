-- The numbers and answers of src/, one law for each way to a return, and what an answer promises. Assumes nothing.
use mathlib.Core.Path.{◌≡◌, sym, ap, ◌∙◌, subst}
use mathlib.Core.Bool.{true, false, ◌&&◌}
use mathlib.Core.List.{List, [], ◌∷◌, ◌++◌, map, Memᴰ}
use Prim.Native.Nat.{ℕ, ◌+◌, ◌/◌, ◌%◌, ◌*◌, ◌≤◌, ◌<◌}
use native.Mathlib.Omega.{arith}
use native.Mathlib.Decide.{dec_lt}
use lib.ListN.{length, get_or, get_or-eq_default}
use lib.Seq.{take_at, get_or-append-add}
use lib.Dec.{eqb, leb, ltb}
use borrow.Author.Tests.{eqb-true, eq-eqb, ne_eqb, leb-true, le-leb, lt-leb, ltb-true}
use Rattle.std.specs.Prelude.{Result, Ok, Err}
use Rattle.std.specs.Result.{IfOk}
use Rattle.lists.specs.Lists.{upto, first_failed, stage, sum, Says}
use Rattle.lists.proofs.Members.{and-true, all_true}
use Rattle.lists.proofs.Refusals.{passed, passes, fails, no_test, stage-passes, stage_fails, stage-passed, by_number}
use Rattle.limits.specs.declared.Limits.{Limits}
use Rattle.refusals.specs.declared.Refusal.{Refusal}
use Rattle.refusals.specs.declared.Refusal.TheVariants.{Lines, LineState}
use Rattle.refusals.specs.Refusals.{number_of, Known, answered, tested, number_in, values_in}
use Rattle.refusals.proofs.Numbers.{some_number, known_of, failed_known, none_known, refused_by, ok_by, answered_says}
use Rattle.limits.specs.Limits.{state_most}
use Rattle.table_spec.specs.File.{table_of}
use Rattle.table_spec.specs.Language.{count}
use Rattle.table_spec.specs.Maps.{class_of, classes}
use Rattle.table_spec.proofs.Bytes.{read_well_formed}
use Rattle.table_spec.proofs.Facts.{most-states}
use Rattle.check_spec.specs.Check.{check_number}
use Rattle.check_spec.proofs.Accepted.{accepted}
use Rattle.check_spec.proofs.Answers.{check-known}
use Rattle.check_spec.proofs.Numbered.{class-below, classes-few, class-under}
use Rattle.uses_spec.specs.declared.Counted.{Counted}
use Rattle.uses_spec.specs.Uses.{Line, lines_of, uses_in, class_sum, state_sum, class_sums, lines_fit, states_fit, lines_tests, uses_number, counted, answer_by, uses_of, counted_values, UsesSays}
use Rattle.uses_spec.specs.Demands.{AnyOrder, ByStates, MakeTotal, ZeroPast, Fits, counted_in, OnCounted, Promises}
use Rattle.uses_spec.proofs.Sums.{sum_no_part, by_key, by_every_key, any_order, all-any-order, total-any-order, length-sums, sum-at}

-- ---- 32 and 33

module _ (n : ℕ) (s : List ℕ) where
  pub not-whole : (length s % 5 ≡ 0 → ⊥) → Err Lines ≡ tested (first_failed (lines_tests n s))
  unfolding lines_tests lines_fit
  not-whole h = refused_by tt (fails 32 _ (rw (ne_eqb (length s % 5) 0 h)))

  module _ (p : length s % 5 ≡ 0) where
    pub too_many : 65536 < length s / 5 → Err Lines ≡ tested (first_failed (lines_tests n s))
    unfolding lines_tests lines_fit
    too_many h = refused_by tt (fails 32 _ (rw (eq-eqb (length s % 5) 0 p, lt-leb (length s / 5) 65536 h)))

    module _ (q : length s / 5 ≤ 65536) where
      fit : lines_fit s ≡ true
      unfolding lines_fit
      fit = rw (eq-eqb (length s % 5) 0 p, le-leb (length s / 5) 65536 q)

      pub past-count : states_fit n s ≡ false → Err LineState ≡ tested (first_failed (lines_tests n s))
      unfolding lines_tests
      past-count h = refused_by tt (passes 32 _ fit ∙ fails 33 _ h)

      pub no_refusal : states_fit n s ≡ true → Ok tt ≡ tested (first_failed (lines_tests n s))
      unfolding lines_tests
      no_refusal h = ok_by tt (passes 32 _ fit ∙ passes 33 _ h ∙ no_test)

  module _ (z : first_failed (lines_tests n s) ≡ 0) where
    pub lines_few : length s ≤ 5 * 65536
    unfolding lines_tests lines_fit
    lines_few =
        let a = and-true _ _ (passed 32 _ _ (omega arith) z).0 in
        let w = eqb-true (length s % 5) 0 a.0 in
        let l = leb-true (length s / 5) 65536 a.1 in
        omega arith

    pub states-below : (l : Line) → Memᴰ l (lines_of s) → l.state < n
    unfolding lines_tests states_fit
    states-below l m = ltb-true _ _ (all_true _ (lines_of s) (passed 33 _ _ (omega arith) (passed 32 _ _ (omega arith) z).1).0 l m)

-- ---- answers

module _ {k : ℕ} (m s : List ℕ) where
  pub answer-counted : k ≡ 0 → Ok (counted m s) ≡ answer_by k m s
  unfolding answer_by
  answer-counted e = ok_by (counted m s) e

  pub answer_refused : {r : Refusal} → k ≡ number_of r → Err r ≡ answer_by k m s
  unfolding answer_by
  answer_refused e = refused_by (counted m s) e

pub tests-known : (n : ℕ) (s : List ℕ) → Known (first_failed (lines_tests n s))
unfolding lines_tests
tests-known n s = failed_known _ _ (known_of Lines) (failed_known _ _ (known_of LineState) none_known)

-- ---- a map that the check accepts

module _ (L : Limits) (b m : List ℕ) (e : check_number L b m ≡ 0) where
  map-long : length m ≡ count (table_of b)
  map-long = (accepted L b m e).proper.long

  few-classes : classes m ≤ state_most
  few-classes =
      let a = accepted L b m e in
      omega (arith, classes-few m a.proper.in_order, map-long, most-states (read_well_formed L b a.readable))

  pub class-small : (q : ℕ) → class_of m q < state_most
  class-small = class-under m few-classes (omega arith)

-- ---- the operation's answer

module _ (L : Limits) (b m s : List ℕ) where
  -- a map that is refused, and lines under one that is accepted
  pub uses_refused : {r : Refusal} → check_number L b m ≡ number_of r → Err r ≡ uses_of L b m s
  unfolding uses_of uses_number
  uses_refused {r} e = answer_refused m s (stage_fails _ _ e (some_number r))

  pub uses-accepted : check_number L b m ≡ 0 → answer_by (first_failed (lines_tests (length m) s)) m s ≡ uses_of L b m s
  unfolding uses_of uses_number
  uses-accepted e =
      ap (λ k. answer_by (first_failed (lines_tests k s)) m s) (map-long L b m e) ∙ ap (λ j. answer_by j m s) (sym (stage-passes _ _ e))

  module _ (z : uses_number L b m s ≡ 0) where
    nothing_refused : (check_number L b m ≡ 0) × (first_failed (lines_tests (count (table_of b)) s) ≡ 0)
    unfolding uses_number
    nothing_refused = stage-passed _ _ z

    below : (l : Line) → Memᴰ l (lines_of s) → l.state < count (table_of b)
    below = states-below _ _ nothing_refused.1

    by_states : ByStates b m s (counted m s)
    unfolding counted class_sum state_sum
    by_states = record {
      classes = λ c h. sum-at m (lines_of s) c h ∙ sym (by_key (λ l. l.state) (count (table_of b)) (λ q. eqb (class_of m q) c) (lines_of s) below);
      total = sym (by_every_key (λ l. l.state) (count (table_of b)) (lines_of s) below);
    }

    sums-total : sum (class_sums m (lines_of s)) ≡ uses_in (lines_of s)
    unfolding class_sums class_sum
    sums-total = by_every_key (λ l. class_of m l.state) state_most (lines_of s) (λ l k. class-small L b m nothing_refused.0 l.state)

    none-past : ZeroPast m (counted m s)
    unfolding counted class_sum uses_in
    none-past c h = go (dec_lt c state_most)
      where
        other : (l : Line) → Memᴰ l (lines_of s) → eqb (class_of m l.state) c ≡ false
        other l k = ne_eqb (class_of m l.state) c (λ e. omega (arith, class-below m l.state (omega (arith, below l k, map-long L b m nothing_refused.0)), e))

        go : Dec (c < state_most) → get_or (class_sums m (lines_of s)) c 0 ≡ 0
        go (yes l) = sum-at m (lines_of s) c l ∙ sum_no_part (λ x. x.uses) (λ x. eqb (class_of m x.state) c) (lines_of s) other
        go (no l) = get_or-eq_default (class_sums m (lines_of s)) 0 {n = c} (omega (arith, length-sums m (lines_of s)))

  -- the sums and the total are what the values say
  counted_back : counted_in (counted_values (counted m s)) ≡ counted m s
  unfolding counted
  counted_back =
      let sums = class_sums m (lines_of s) in
      let total = uses_in (lines_of s) ∷ [] in
      let long : length sums ≡ state_most = length-sums m (lines_of s) in
      let at : state_most ≡ length sums + 0 = omega (arith, long) in
      let last : get_or (sums ++ total) state_most 0 ≡ uses_in (lines_of s) =
      ap (λ n. get_or (sums ++ total) n 0) at ∙ get_or-append-add sums total 0 0 in
      λ i. record { sums = take_at sums total state_most long i; total = last i }

  -- so what holds of these, where nothing is refused, holds of the answer
  on_counted : (P : Counted → Type 0) → (uses_number L b m s ≡ 0 → P (counted m s)) → OnCounted (uses_of L b m s) P
  unfolding uses_of answer_by
  on_counted P h = by_number _ _ _ (λ (r : Result Counted Refusal). OnCounted r P) (λ z _. subst P (sym counted_back) (h z)) (λ n f. absurd (some_number _ f))

  makes_total : uses_number L b m s ≡ 0 → MakeTotal (counted m s)
  unfolding sum counted
  makes_total z = sums-total z

  fits_counted : IfOk (uses_of L b m s) Fits → uses_number L b m s ≡ 0 → Fits (counted m s)
  unfolding uses_of answer_by
  fits_counted f z = subst (λ (x : Result Counted Refusal). IfOk x Fits) (sym (ok_by (counted m s) z)) f

  same-order : AnyOrder L b m s (uses_of L b m s)
  unfolding uses_of uses_number answer_by counted class_sums class_sum lines_tests lines_fit states_fit
  same-order other l p =
      let n = count (table_of b) in
      let tests : lines_tests n other ≡ lines_tests n s =
      λ i. (32, eqb (l i % 5) 0 && leb (l i / 5) 65536) ∷ (33, sym (all-any-order (λ x. ltb x.state n) p) i) ∷ [] in
      let number : uses_number L b m other ≡ uses_number L b m s =
      ap (λ ts. first_failed (stage (check_number L b m) ∷ ts)) tests in
      let counts : counted m other ≡ counted m s =
      λ i. record { sums = map (λ c. sym (any_order (λ x. eqb (class_of m x.state) c) p) i) (upto state_most); total = sym (total-any-order p) i } in
      λ i. answered (number i) (counts i)

  -- the answer's number is the first of the tests that fails, and its values are the sums and the total
  uses-known : Known (uses_number L b m s)
  unfolding uses_number
  uses-known = failed_known _ _ (check-known L b m) (tests-known (count (table_of b)) s)

  pub uses-says : Says (number_in (uses_of L b m s)) (values_in counted_values (uses_of L b m s)) (uses_number L b m s) (counted_values (counted m s))
  unfolding uses_of answer_by
  uses-says = answered_says (counted m s) counted_values uses-known

  pub number_counted : {r : Result Counted Refusal} → r ≡ uses_of L b m s → number_in r ≡ uses_number L b m s
  number_counted e = ap number_in e ∙ uses-says.numbered

  pub counted_says : {r : Result Counted Refusal} → r ≡ uses_of L b m s → UsesSays L b m s r
  counted_says e = subst (UsesSays L b m s) (sym e) uses-says

  pub promised : {r : Result Counted Refusal} → r ≡ uses_of L b m s → IfOk r Fits → (r ≡ uses_of L b m s) × Promises L b m s r
  promised {r} e f =
      let on : (P : Counted → Type 0) → (uses_number L b m s ≡ 0 → P (counted m s)) → OnCounted r P =
      λ P h. subst (λ (x : Result Counted Refusal). OnCounted x P) (sym e) (on_counted P h) in (
        e,
        record {
          order = λ other l p. same-order other l p ∙ sym e;
          states = on (ByStates b m s) by_states;
          total = on MakeTotal makes_total;
          past = on (ZeroPast m) none-past;
          fits = on Fits (fits_counted (subst (λ (x : Result Counted Refusal). IfOk x Fits) e f));
        },
      )
