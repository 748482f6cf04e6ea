-- The ways in which reduce ends: refused before the search, refused by 21, or delivered, solved or spent. That no assignment exists, and that
-- the check refuses the map, do not happen. Assumes nothing.
use mathlib.Core.Path.{◌≡◌, refl, sym, ap, ◌∙◌, subst}
use mathlib.Core.Logic.{◌≢◌, ⊎_elim}
use mathlib.Core.Bool.{Bool, true, false, true≢false}
use mathlib.Core.List.{List, [], ◌∷◌}
use Prim.Native.Nat.{ℕ, ◌≤◌, ◌<◌}
use native.Mathlib.Omega.{arith}
use native.Mathlib.Decide.{ℕ_discrete}
use lib.ListN.{length}
use lib.Dec.{leb}
use borrow.Author.Tests.{leb-true, leb-false}
use Rattle.std.specs.Prelude.{Ok, Err}
use Rattle.lists.specs.Lists.{over, first_failed}
use Rattle.lists.proofs.Refusals.{passed, passes, fails, no_test, stage-passes, stage_fails, stage-passed, not_refused, by_number}
use Rattle.cnf.specs.Clauses.{Model, Maximal}
use Rattle.cnf.specs.Search.{Outcome, solved, none_exists, spent, unfinished, search_from, made_of, is_spent}
use Rattle.cnf.specs.Trials.{ceiling_of, Tried, search_tried}
use Rattle.cnf.specs.Closing.{Formed}
use Rattle.cnf.proofs.Words.{fit-formed}
use Rattle.cnf.proofs.Theorems.{maximal, never_none, ends}
use Rattle.cnf.proofs.Trying.{tried-outcome}
use Rattle.cnf.proofs.Trials.{held_model, solved-held}
use Rattle.limits.specs.declared.Limits.{Limits}
use Rattle.refusals.specs.declared.Refusal.{Refusal}
use Rattle.refusals.specs.declared.Refusal.TheVariants.{ListLength, OutputLength, MapRoom}
use Rattle.refusals.specs.Refusals.{number_of, refusal, Known}
use Rattle.refusals.proofs.Numbers.{refuses_by, known_of, failed_known, none_known}
use Rattle.pairs.specs.Pairs.{pairs}
use Rattle.table_spec.specs.File.{Table, table_of}
use Rattle.table_spec.specs.Reading.{read_number, Readable, WellFormed}
use Rattle.table_spec.specs.Language.{count}
use Rattle.table_spec.specs.Maps.{classes, RaqMap}
use Rattle.table_spec.proofs.Passed.{read-within, read-known}
use Rattle.table_spec.proofs.Bytes.{read_well_formed}
use Rattle.check_spec.specs.Check.{check_number}
use Rattle.clauses_spec.specs.Clauses.{clause_list, short_words}
use Rattle.clauses_spec.specs.Maps.{map_of}
use Rattle.clauses_spec.proofs.Formed.{list-fits}
use Rattle.clauses_spec.proofs.Assignments.{nothing_joined, all-false}
use Rattle.clauses_spec.proofs.Theorems.{model_accepted}
use Rattle.quotient_spec.specs.Quotient.{quotient_bytes, quotient_number}
use Rattle.reduce_spec.specs.Reduce.{Reduced, before_search, search_of_table, tried_of_table, joined_pairs, deliver, after_search, reduce_of}
use Rattle.reduce_spec.proofs.Joined.{ceiling-pairs}

-- what holds where the search is run
pub record Begun (L : Limits) (b list map : List ℕ) : Type 0 where
  pub readable : Readable L b
  pub room : count (table_of b) ≤ length map
  pub listed : length (short_words (table_of b)) ≤ length list

begun : (L : Limits) (b list map : List ℕ) → before_search L b list map ≡ 0 → Begun L b list map
unfolding before_search
begun L b list map e =
    let a = stage-passed _ _ e in
    let m = passed 22 _ _ (λ z. omega (arith, z)) a.1 in
    let l = passed 10 _ _ (λ z. omega (arith, z)) m.1 in
    record { readable = a.0; room = leb-true _ _ m.0; listed = leb-true _ _ l.0 }

-- the numbers that come before the search
pub data FirstNumber (k : ℕ) : Type 0 where
  of_limits : k ≡ 39 → FirstNumber k
  of_reading : k ≤ 8 → FirstNumber k
  map-short : k ≡ 22 → FirstNumber k
  list-long : k ≡ 10 → FirstNumber k

pub first-number : (L : Limits) (b list map : List ℕ) → FirstNumber (before_search L b list map)
unfolding before_search
first-number L b list map = go (ℕ_discrete (read_number L b) 0)
  where
    rest : (s t : Bool) → FirstNumber (first_failed ((22, s) ∷ (10, t) ∷ []))
    rest true true = of_reading (omega (arith, passes 22 ((10, true) ∷ []) refl ∙ passes 10 [] refl ∙ no_test))
    rest true false = list-long (passes 22 ((10, false) ∷ []) refl ∙ fails 10 [] refl)
    rest false t = map-short (fails 22 ((10, t) ∷ []) refl)

    go : Dec (read_number L b ≡ 0) → FirstNumber (before_search L b list map)
    go (yes z) = subst FirstNumber (sym (stage-passes _ _ z)) (rest (leb (count (table_of b)) (length map)) (leb (length (short_words (table_of b))) (length list)))
    go (no n) = subst FirstNumber (sym (stage_fails _ _ refl n)) (⊎_elim of_limits of_reading (read-within L b))

-- they are known
pub first-known : (L : Limits) (b list map : List ℕ) → Known (before_search L b list map)
unfolding before_search
first-known L b list map = failed_known _ _ (read-known L b) (failed_known _ _ (known_of MapRoom) (failed_known _ _ (known_of ListLength) none_known))

-- the list is over the table's pairs
pub list-formed : {L : Limits} {t : Table} → WellFormed L t → Formed (clause_list t) (pairs (count t))
list-formed {L} {t} wf = fit-formed (pairs (count t)) (clause_list t) (list-fits t wf)

-- nothing joined satisfies it, so every trial that is held does
pub trial_model : (L : Limits) (t : Table) → WellFormed L t → (budget : ℕ) → Model (clause_list t) (pairs (count t)) (search_tried (clause_list t) (pairs (count t)) budget).trials.held
trial_model L t wf budget = held_model (clause_list t) (pairs (count t)) budget (list-formed wf) (subst (Model (clause_list t) (pairs (count t))) (all-false (count t)) (nothing_joined L t wf))

module _ (L : Limits) (b : List ℕ) (budget : ℕ) (list map out : List ℕ) where
  -- what is held at the end of the search: v, after g guesses, with the ceiling u; z: the budget is spent
  pub record Held (v : List ℕ) (g u : ℕ) (z : Bool) : Type 0 where
    pub begun : Begun L b list map
    pub guesses : g ≡ made_of (search_of_table b budget)
    pub ended : z ≡ is_spent (search_of_table b budget)
    pub model : Model (clause_list (table_of b)) (pairs (count (table_of b))) v
    pub none_above : z ≡ false → Maximal (clause_list (table_of b)) (pairs (count (table_of b))) v
    pub most : (m : List ℕ) → RaqMap (table_of b) m → joined_pairs (count (table_of b)) m ≤ u
    pub accepted : check_number L b (map_of v (count (table_of b))) ≡ 0
    pub found : (w : List ℕ) (k : ℕ) → search_of_table b budget ≡ solved w k → v ≡ w

  pub data Ways : Reduced → Type 0 where
    refused_first : (r : Refusal) → before_search L b list map ≡ number_of r → Ways (record { answer = Err r; list = list; map = map; out = out })
    refused_short :
        (v : List ℕ) (g u : ℕ) (z : Bool) → Held v g u z → length out < length (quotient_bytes b (map_of v (count (table_of b))))
        → Ways (record { answer = Err OutputLength; list = over (short_words (table_of b)) list; map = map; out = out })
    delivers : (v : List ℕ) (g u : ℕ) (z : Bool) → Held v g u z → length (quotient_bytes b (map_of v (count (table_of b)))) ≤ length out → Ways (record {
      answer =
          Ok (record {
            classes = classes (map_of v (count (table_of b)));
            guesses = g;
            words = length (short_words (table_of b));
            length = length (quotient_bytes b (map_of v (count (table_of b))));
            joined = joined_pairs (count (table_of b)) (map_of v (count (table_of b)));
            ceiling = u;
            spent = z;
          });
      list = over (short_words (table_of b)) list;
      map = over (map_of v (count (table_of b))) map;
      out = over (quotient_bytes b (map_of v (count (table_of b)))) out;
    })

  delivery_ways : (v : List ℕ) (g u : ℕ) (z : Bool) → Held v g u z → Ways (deliver L b list map out (map_of v (count (table_of b))) g u z)
  unfolding deliver quotient_number
  delivery_ways v g u z s = go (leb (length (quotient_bytes b m)) (length out)) refl
    where
      m : List ℕ
      m = map_of v (count (table_of b))

      go : (t : Bool) → leb (length (quotient_bytes b m)) (length out) ≡ t → Ways (deliver L b list map out m g u z)
      go true p = subst Ways (not_refused (quotient_number L b m out) _ _ (stage-passes _ _ s.accepted ∙ passes 21 _ p ∙ no_test)) (delivers v g u z s (leb-true _ _ p))
      go false p =
          let refused : Refusal → Reduced = λ r. record { answer = Err r; list = over (short_words (table_of b)) list; map = map; out = out } in
          subst Ways (refuses_by refused _ (stage-passes _ _ s.accepted ∙ fails 21 _ p)) (refused_short v g u z s (leb-false _ _ p))

  -- the map that is held is one that the check accepts
  pub held-accepted : before_search L b list map ≡ 0 → check_number L b (map_of (tried_of_table b budget).trials.held (count (table_of b))) ≡ 0
  unfolding tried_of_table
  held-accepted z = let h = begun L b list map z in model_accepted L b h.readable _ (trial_model L (table_of b) (read_well_formed L b h.readable) budget)

  search_ways : Begun L b list map → Ways (after_search L b list map out (tried_of_table b budget))
  unfolding after_search tried_of_table search_of_table
  search_ways h = delivery_ways held (made_of e.outcome) (ceiling_of e.trials.ceiling) (is_spent e.outcome) (record {
    begun = h;
    guesses = ap made_of same;
    ended = ap is_spent same;
    model = model;
    none_above = λ z. largest (search_from cs (pairs n) budget) refl (sym (ap is_spent same) ∙ z);
    most = ceiling-pairs L (table_of b) wf budget formed;
    accepted = model_accepted L b h.readable held model;
    found = solved-held cs (pairs n) budget formed;
  })
    where
      n : ℕ
      n = count (table_of b)

      cs : List (List ℕ)
      cs = clause_list (table_of b)

      wf : WellFormed L (table_of b)
      wf = read_well_formed L b h.readable

      formed : Formed cs (pairs n)
      formed = list-formed wf

      e : Tried
      e = search_tried cs (pairs n) budget

      held : List ℕ
      held = e.trials.held

      same : e.outcome ≡ search_from cs (pairs n) budget
      same = tried-outcome cs (pairs n) budget

      model : Model cs (pairs n) held
      model = trial_model L (table_of b) wf budget

      largest : (o : Outcome) → search_from cs (pairs n) budget ≡ o → is_spent o ≡ false → Maximal cs (pairs n) held
      largest (solved v k) q z = subst (Maximal cs (pairs n)) (sym (solved-held cs (pairs n) budget formed v k q)) (maximal cs (pairs n) budget formed v k q)
      largest (none_exists k) q z = absurd (never_none cs (pairs n) budget formed held model k q)
      largest (spent k) q z = absurd (true≢false z)
      largest unfinished q z = absurd (ends cs (pairs n) budget formed q)

  pub reduce_ways : Ways (reduce_of L b budget list map out)
  unfolding reduce_of
  reduce_ways = by_number _ _ _ Ways (λ z. search_ways (begun L b list map z)) (λ n. refused_first (refusal (before_search L b list map)) (sym (first-known L b list map n)))
