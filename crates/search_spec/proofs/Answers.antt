-- The search's answer by cases: the refusals in order, each outcome, 39, and what the answer promises. Assumes nothing.
use mathlib.Core.Path.{◌≡◌, refl, sym, ap, ◌∙◌, subst}
use mathlib.Core.Logic.{◌≢◌}
use mathlib.Core.Bool.{Bool, true, false, ◌&&◌}
use mathlib.Core.List.{List, [], ◌∷◌}
use Prim.Native.Nat.{ℕ, ◌≤◌, ◌<◌}
use native.Mathlib.Omega.{arith}
use lib.ListN.{length, take, drop}
use lib.Seq.{take_at}
use lib.Dec.{leb}
use borrow.Author.Tests.{le-leb, lt-leb, leb-true}
use Rattle.std.specs.Prelude.{Result, Ok, Err}
use Rattle.lists.specs.Lists.{all, over, first_failed, Says}
use Rattle.lists.proofs.Members.{and-true}
use Rattle.lists.proofs.Refusals.{passed, passes, fails, no_test, stage-passes, stage_fails, last-stage, not_refused, by_number, told_says, refused_says}
use Rattle.cnf.specs.Clauses.{clauses_in, whole, clause_fits}
use Rattle.cnf.specs.Search.{Outcome, solved, none_exists, spent, unfinished, search_from, made_of}
use Rattle.cnf.specs.Closing.{Formed}
use Rattle.cnf.proofs.Words.{fit-formed}
use Rattle.cnf.proofs.Theorems as theorems
use Rattle.pairs.specs.Pairs.{pairs}
use Rattle.refusals.specs.declared.Refusal.{Refusal}
use Rattle.refusals.specs.declared.Refusal.TheVariants.{ListForm, AnswerLength, NoneExists, Spent, LimitsRange}
use Rattle.refusals.specs.Refusals.{number_of, Known, number_in, one_value, values_in}
use Rattle.refusals.proofs.Numbers.{refuses_by, some_number, known_of, failed_known, none_known}
use Rattle.search_spec.specs.Answers.{list_fits, search_number, Searched, searched, search_at, search_of, end_number, searching_number, SearchSays}
use Rattle.search_spec.specs.Demands.{SearchSound}
use Rattle.limits.specs.declared.Limits.{Limits}
use Rattle.limits.specs.Limits.{limits_fit}

-- ---- the refusals, in order

module _ (most : ℕ) (ws : List ℕ) (n b : ℕ) (a : List ℕ) where
  refused_by_lem : {r : Refusal} → search_number most ws n a ≡ number_of r → record { solution = Err r; answer = a } ≡ search_at most ws n b a
  unfolding search_at
  refused_by_lem e = refuses_by (λ r. record { solution = Err r; answer = a }) _ e

  -- 11
  pub refuse_list : list_fits most ws n ≡ false → record { solution = Err ListForm; answer = a } ≡ search_at most ws n b a
  unfolding search_number
  refuse_list e = refused_by_lem (fails 11 ((14, leb n (length a)) ∷ []) e)

  -- 14
  pub refuse_short : list_fits most ws n ≡ true → length a < n → record { solution = Err AnswerLength; answer = a } ≡ search_at most ws n b a
  unfolding search_number
  refuse_short e h = refused_by_lem (passes 11 ((14, leb n (length a)) ∷ []) e ∙ fails 14 [] (lt-leb _ _ h))

  -- the outcome
  answer-outcome : list_fits most ws n ≡ true → n ≤ length a → (o : Outcome) → o ≡ search_from (clauses_in ws) n b → searched a o ≡ search_at most ws n b a
  unfolding search_number search_at
  answer-outcome e h o q = ap (searched a) q ∙ not_refused (search_number most ws n a) _ _ (passes 11 ((14, leb n (length a)) ∷ []) e ∙ passes 14 [] (le-leb _ _ h) ∙ no_test)

module _ (most : ℕ) (ws : List ℕ) (n b : ℕ) (a : List ℕ) (e : list_fits most ws n ≡ true) (h : n ≤ length a) {k : ℕ} where
  pub answer-found : {v out : List ℕ} → solved v k ≡ search_from (clauses_in ws) n b → out ≡ over v a → record { solution = Ok k; answer = out } ≡ search_at most ws n b a
  unfolding searched
  answer-found {v} {out} q p = (λ j. record { solution = Ok k; answer = p j }) ∙ answer-outcome most ws n b a e h (solved v k) q

  -- 12
  pub answer_absent : none_exists k ≡ search_from (clauses_in ws) n b → record { solution = Err NoneExists; answer = a } ≡ search_at most ws n b a
  unfolding searched
  answer_absent q = answer-outcome most ws n b a e h (none_exists k) q

  -- 13
  pub answer-spent : spent k ≡ search_from (clauses_in ws) n b → record { solution = Err Spent; answer = a } ≡ search_at most ws n b a
  unfolding searched
  answer-spent q = answer-outcome most ws n b a e h (spent k) q

-- 11 as it is judged: the number of variables, then the list
module _ (most n : ℕ) (ws : List ℕ) where
  pub list_many : most < n → list_fits most ws n ≡ false
  unfolding list_fits
  list_many h = rw (lt-leb n most h)

  pub list_as : n ≤ most → (t : Bool) → (whole ws && all (clause_fits n) (clauses_in ws)) ≡ t → list_fits most ws n ≡ t
  unfolding list_fits
  list_as h t e = rw (le-leb n most h, e)

  pub list-formed : list_fits most ws n ≡ true → (n ≤ most) × (whole ws ≡ true) × Formed (clauses_in ws) n
  unfolding list_fits
  list-formed e =
      let p = and-true (leb n most && whole ws) (all (clause_fits n) (clauses_in ws)) e in
      let q = and-true (leb n most) (whole ws) p.0 in
      (leb-true n most q.0, q.1, fit-formed n (clauses_in ws) p.1)

-- ---- what the answer promises

-- a refusal that is not 12 promises nothing
refusal_sound : (ws : List ℕ) (n : ℕ) (a : List ℕ) (r : Refusal) → number_of r ≢ 12 → SearchSound ws n (Err r) a
refusal_sound ws n a r t = record { satisfies = λ e. absurd (some_number r e); maximal = λ e. absurd (some_number r e); complete = λ e. absurd (t e); few = λ h e. absurd (some_number r e) }

module _ (most : ℕ) (ws : List ℕ) (n b : ℕ) (a : List ℕ) where
  -- the ways to end: refused by 11, 14 or 13; refused by 12; solved
  data Ways : Searched → Type 0 where
    refused : (r : Refusal) → number_of r ≢ 12 → Ways (record { solution = Err r; answer = a })
    none : {k : ℕ} → Formed (clauses_in ws) n → search_from (clauses_in ws) n b ≡ none_exists k → Ways (record { solution = Err NoneExists; answer = a })
    found : {v : List ℕ} {k : ℕ} → Formed (clauses_in ws) n → search_from (clauses_in ws) n b ≡ solved v k → Ways (record { solution = Ok k; answer = over v a })

  formed_of : search_number most ws n a ≡ 0 → Formed (clauses_in ws) n
  unfolding search_number
  formed_of e = (list-formed most n ws (passed 11 (list_fits most ws n) ((14, leb n (length a)) ∷ []) (omega arith) e).0).2

  -- no other refusal has number 12
  not_twelve : search_number most ws n a ≢ 12
  unfolding search_number first_failed
  not_twelve = go (list_fits most ws n) (leb n (length a))
    where
      go : (t u : Bool) → first_failed ((11, t) ∷ (14, u) ∷ []) ≢ 12
      go true true = omega arith
      go true false = omega arith
      go false u = omega arith

  pub number-known : Known (search_number most ws n a)
  unfolding search_number
  number-known = failed_known _ _ (known_of ListForm) (failed_known _ _ (known_of AnswerLength) none_known)

  ways : Ways (search_at most ws n b a)
  unfolding searched search_at
  ways = by_number (search_number most ws n a) _ _ Ways (λ z. by (formed_of z) (search_from (clauses_in ws) n b) refl) (λ z. refused _ (λ e. not_twelve (sym (number-known z) ∙ e)))
    where
      by : Formed (clauses_in ws) n → (o : Outcome) → search_from (clauses_in ws) n b ≡ o → Ways (searched a o)
      by f (solved v k) q = found f q
      by f (none_exists k) q = none f q
      by f (spent k) q = refused Spent (omega arith)
      by f unfinished q = refused Spent (omega arith)

  -- what the answer bytes begin with
  first-values : {v : List ℕ} {k : ℕ} → Formed (clauses_in ws) n → search_from (clauses_in ws) n b ≡ solved v k → take n (over v a) ≡ v
  unfolding over
  first-values {v} {k} f q = take_at v (drop (length v) a) n (theorems.satisfies (clauses_in ws) n b f v k q).assigns.long

  sound_ways : {s : Searched} → Ways s → SearchSound ws n s.solution s.answer
  sound_ways (refused r t) = refusal_sound ws n a r t
  sound_ways (none {k} f q) = record {
    satisfies = λ e. absurd (omega arith);
    maximal = λ e. absurd (omega arith);
    complete = λ e. theorems.complete (clauses_in ws) n b f k q;
    few = λ h e. absurd (omega arith);
  }
  sound_ways (found {v} {k} f q) = record {
    satisfies = λ e. rw (first-values f q) (theorems.satisfies (clauses_in ws) n b f v k q);
    maximal = λ e. rw (first-values f q) (theorems.maximal (clauses_in ws) n b f v k q);
    complete = λ e. absurd (omega arith);
    few = λ h e. rw q at (theorems.horn (clauses_in ws) n b f h);
  }

  -- the contract
  pub promised :
      {r : Result ℕ Refusal} {out : List ℕ} → record { solution = r; answer = out } ≡ search_at most ws n b a
      → (record { solution = r; answer = out } ≡ search_at most ws n b a) × SearchSound ws n r out
  promised e = (e, subst (λ (s : Searched). SearchSound ws n s.solution s.answer) (sym e) (sound_ways ways))

-- ---- 39, and the limits in force

module _ (L : Limits) (ws : List ℕ) (n b : ℕ) (a : List ℕ) where
  end_says : (o : Outcome) {k : ℕ} → k ≡ end_number o → Says (number_in (searched a o).solution) (values_in one_value (searched a o).solution) k (made_of o ∷ [])
  unfolding searched end_number
  end_says (solved v g) e = told_says _ e
  end_says (none_exists g) e = refused_says _ e (omega arith)
  end_says (spent g) e = refused_says _ e (omega arith)
  end_says unfinished e = refused_says _ e (omega arith)

  -- its number and its values
  numbered : SearchSays L ws n b a (search_of L ws n b a).solution
  unfolding search_of search_at searching_number
  numbered = go (limits_fit L) refl
    where
      by : limits_fit L ≡ true → SearchSays L ws n b a (search_at (pairs L.states) ws n b a).solution
      by l =
          by_number
          (search_number (pairs L.states) ws n a)
          _
          _
          (λ (x : Searched). SearchSays L ws n b a x.solution)
          (λ z. end_says (search_from (clauses_in ws) n b) (passes 39 _ l ∙ stage-passes _ _ z ∙ last-stage _))
          (λ z. rw (number-known (pairs L.states) ws n b a z) (refused_says _ (passes 39 _ l ∙ stage_fails _ _ refl z) z))

      go :
          (t : Bool) → limits_fit L ≡ t
          → SearchSays L ws n b a (elim t as (λ _. Searched) [ true ↦ search_at (pairs L.states) ws n b a | false ↦ record { solution = Err LimitsRange; answer = a } ]).solution
      go true l = by l
      go false l = refused_says _ (fails 39 _ l) (omega arith)

  -- the contract
  module _ {r : Result ℕ Refusal} {out : List ℕ} where
    promised_within : record { solution = r; answer = out } ≡ search_of L ws n b a → SearchSound ws n r out
        → (◌≡◌ {A = Searched} (record { solution = r; answer = out }) (search_of L ws n b a)) × (SearchSays L ws n b a r × SearchSound ws n r out)
    promised_within e s = (e, (subst (λ (x : Searched). SearchSays L ws n b a x.solution) (sym e) numbered, s))

    pub within : {m : ℕ} → limits_fit L ≡ true → m ≡ pairs L.states → record { solution = r; answer = out } ≡ search_at m ws n b a → SearchSound ws n r out
        → (◌≡◌ {A = Searched} (record { solution = r; answer = out }) (search_of L ws n b a)) × (SearchSays L ws n b a r × SearchSound ws n r out)
    unfolding search_of
    within e p q s = promised_within (q ∙ ap (λ (m : ℕ). search_at m ws n b a) p ∙ sym (rw (e, search_of))) s

  pub unfit : limits_fit L ≡ false → (◌≡◌ {A = Searched} (record { solution = Err LimitsRange; answer = a }) (search_of L ws n b a)) × (SearchSays L ws n b a (Err LimitsRange) × SearchSound ws n (Err LimitsRange) a)
  unfolding search_of
  unfit e =
      promised_within (sym (rw (e, search_of))) (refusal_sound ws n a LimitsRange (omega arith))
