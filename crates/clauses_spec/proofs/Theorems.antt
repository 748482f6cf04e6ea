-- What the clauses of a readable table promise: satisfied exactly by the relations of the maps that meet Definition 1, so that every
-- satisfying assignment has a map that the check accepts, and a maximal one a map that none coarser meets; and what the written list is worth
-- (demand 3). Assumes nothing.
use mathlib.Core.Path.{◌≡◌, refl, sym, ap, ◌∙◌, subst}
use mathlib.Core.Logic.{inr, ◌↔◌}
use mathlib.Core.List.{List, ◌++◌}
use Rattle.std.specs.Prelude.{Result, Ok, Err}
use Prim.Native.Nat.{ℕ, ◌<◌}
use native.Mathlib.Omega.{arith}
use native.Mathlib.Decide.{dec_lt}
use lib.ListN.{length, take, drop, get_or-eq_default}
use lib.Seq.{take-append_seam}
use Rattle.lists.specs.Lists.{over}
use Rattle.lists.proofs.Refusals.{stage-passed, by_number, says}
use Rattle.cnf.specs.Clauses.{value_of, Assignment, Model, Maximal, clauses_in, words_of}
use Rattle.cnf.proofs.Words.{clauses_words}
use Rattle.pairs.specs.Pairs.{pairs, pair_of}
use Rattle.pairs.proofs.Pairs.{variable-pair, pair-ordered, pair-below}
use Rattle.vpa.specs.Quotients.{Joined}
use Rattle.vpa.proofs.Relations.{raq_along}
use Rattle.limits.specs.declared.Limits.{Limits}
use Rattle.refusals.specs.declared.Refusal.{Refusal}
use Rattle.refusals.specs.declared.Refusal.TheVariants.{ListLength}
use Rattle.refusals.specs.Refusals.{refusal, Known, number_in, values_in}
use Rattle.refusals.proofs.Numbers.{some_number, known_of, failed_known, none_known}
use Rattle.table_spec.proofs.Passed.{read-known}
use Rattle.table_spec.specs.File.{Table, table_of}
use Rattle.table_spec.specs.Reading.{Readable, WellFormed}
use Rattle.table_spec.specs.Language.{count, automaton}
use Rattle.table_spec.specs.Maps.{JoinedBy, Proper, RaqMap, NoneCoarser}
use Rattle.table_spec.proofs.Bytes.{read_well_formed}
use Rattle.check_spec.specs.Check.{check_number}
use Rattle.check_spec.proofs.Accepted.{accepts}
use Rattle.clauses_spec.specs.declared.Listed.{Listed}
use Rattle.clauses_spec.specs.Clauses.{clause_list, clause_words, clauses_number, ClausesDone, clauses_of, listed_values, ClausesSays}
use Rattle.clauses_spec.specs.Maps.{map_of}
use Rattle.clauses_spec.specs.Demands.{ListSound}
use Rattle.clauses_spec.proofs.Related.{Related, related_true}
use Rattle.clauses_spec.proofs.Models.{satisfied-transitive, model_raq}
use Rattle.clauses_spec.proofs.Maps.{map-long, map-numbered, map-joins}
use Rattle.clauses_spec.proofs.Assignments.{assignment_of, joined_related, map_model}

module _ (L : Limits) (t : Table) (wf : WellFormed L t) (v : List ℕ) (model : Model (clause_list t) (pairs (count t)) v) where
  transitive : (p q s : ℕ) → Related (count t) v p q → Related (count t) v q s → Related (count t) v p s
  transitive = satisfied-transitive L t wf v model.assigns model.each

  pub joined_of : (p q : ℕ) → Related (count t) v p q → JoinedBy t (map_of v (count t)) p q
  joined_of p q r = record { left = r.left; right = r.right; classes = (map-joins (count t) v transitive p q r.left r.right).1 r }

  pub related_of : (p q : ℕ) → JoinedBy t (map_of v (count t)) p q → Related (count t) v p q
  related_of p q j = (map-joins (count t) v transitive p q j.left j.right).0 j.classes

  -- "The map of an assignment that satisfies the list" is properly numbered and meets Definition 1
  pub map_proper : Proper t (map_of v (count t))
  map_proper = record { long = map-long (count t) v transitive; in_order = map-numbered (count t) v transitive }

  pub map_raq : RaqMap t (map_of v (count t))
  map_raq = raq_along (automaton t) (Related (count t) v) (JoinedBy t (map_of v (count t))) joined_of related_of ((model_raq L t wf v model.assigns).0 model)

  -- where f joins what the map joins, the true variables are true in the assignment of f
  pub above : (f : ℕ → ℕ) → ((p q : ℕ) → JoinedBy t (map_of v (count t)) p q → f p ≡ f q) → (x : ℕ) → value_of v x ≡ 1 → value_of (assignment_of f (count t)) x ≡ 1
  above f h x e = go (dec_lt x (pairs (count t)))
    where
      low : ℕ
      low = (pair_of x).low

      high : ℕ
      high = (pair_of x).high

      go : Dec (x < pairs (count t)) → value_of (assignment_of f (count t)) x ≡ 1
      go (no l) = absurd (omega (arith, get_or-eq_default v 2 {n = x} (omega (arith, model.assigns.long))))
      go (yes l) =
          let b = pair-below (count t) x l in
          let o = pair-ordered x in
          let r : Related (count t) v low high = record { left = omega arith; right = b; joined = inr (ap (value_of v) (variable-pair x) ∙ e) } in
          let j : Joined (automaton t) f low high = record { left = omega arith; right = b; classes = h low high (joined_of low high r) } in
          ap (value_of (assignment_of f (count t))) (sym (variable-pair x)) ∙ related_true (count t) (assignment_of f (count t)) (joined_related t f low high j) (omega arith)

  -- demand 3: no map meeting Definition 1 joins all pairs of a maximal assignment's map and one more
  module _ (maximal : Maximal (clause_list t) (pairs (count t)) v) where
    pub none_coarser : NoneCoarser t (map_of v (count t))
    none_coarser = record {
      none = λ f raq h p q lp lq e.
          let same : assignment_of f (count t) ≡ v = maximal.only (assignment_of f (count t)) (map_model L t wf f raq) (above f h) in
          joined_of p q (subst (λ (a : List ℕ). Related (count t) a p q) same (joined_related t f p q (record { left = lp; right = lq; classes = e })));
    }

-- ---- from the lent bytes

module _ (L : Limits) (b : List ℕ) (readable : Readable L b) (v : List ℕ) where
  -- demand 3: no assignment satisfies the clauses and has a map that the check refuses
  pub model_accepted : Model (clause_list (table_of b)) (pairs (count (table_of b))) v → check_number L b (map_of v (count (table_of b))) ≡ 0
  model_accepted model =
      let wf = read_well_formed L b readable in
      accepts L b (map_of v (count (table_of b))) (record { readable = readable; proper = map_proper L (table_of b) wf v model; raq = map_raq L (table_of b) wf v model })

  -- an assignment satisfies the list exactly when it is the relation of a map that meets Definition 1
  pub model_exact : Assignment (pairs (count (table_of b))) v
      → Model (clause_list (table_of b)) (pairs (count (table_of b))) v
      ↔ ((m : List ℕ) × RaqMap (table_of b) m × ((p q : ℕ) → JoinedBy (table_of b) m p q ↔ Related (count (table_of b)) v p q))
  model_exact full =
      let wf = read_well_formed L b readable in (
        λ model. (map_of v (count (table_of b)), map_raq L (table_of b) wf v model, λ p q. (related_of L (table_of b) wf v model p q, joined_of L (table_of b) wf v model p q)),
        λ (m, raq, same). (model_raq L (table_of b) wf v full).1 (raq_along (automaton (table_of b)) (JoinedBy (table_of b) m) (Related (count (table_of b)) v) (λ p q. (same p q).0) (λ p q. (same p q).1) raq),
      )

-- ---- demand 3, of the answer

-- where the answer is a list, the bytes were read
fit : (L : Limits) (b list : List ℕ) → clauses_number L b list ≡ 0 → Readable L b
unfolding clauses_number
fit L b list e = (stage-passed _ _ e).0

-- the two ways to end
abbrev written : List ℕ → List ℕ → ClausesDone
written b list = record { answer = Ok (record { clauses = length (clause_list (table_of b)); words = length (clause_words (table_of b)) }); list = over (clause_words (table_of b)) list }

abbrev refused : Limits → List ℕ → List ℕ → ClausesDone
refused L b list = record { answer = Err (refusal (clauses_number L b list)); list = list }

sound : (L : Limits) (b list : List ℕ) → ListSound L b (clauses_of L b list).list (clauses_of L b list).answer
unfolding clauses_of clause_words over
sound L b list = by_number _ (written b list) (refused L b list) (λ (d : ClausesDone). ListSound L b d.list d.answer) given (λ n e. absurd (some_number (refusal (clauses_number L b list)) e))
  where
    cs : List (List ℕ)
    cs = clause_list (table_of b)

    there : clauses_in (take (length (words_of cs)) (words_of cs ++ drop (length (words_of cs)) list)) ≡ cs
    there = ap clauses_in (take-append_seam (words_of cs) (drop (length (words_of cs)) list)) ∙ clauses_words cs

    given : clauses_number L b list ≡ 0 → ListSound L b (over (words_of cs) list) (Ok (record { clauses = length cs; words = length (words_of cs) }))
    given z _ v m = model_accepted L b (fit L b list z) v (subst (λ (ds : List (List ℕ)). Model ds (pairs (count (table_of b))) v) there m)

clauses-known : (L : Limits) (b list : List ℕ) → Known (clauses_number L b list)
unfolding clauses_number
clauses-known L b list = failed_known _ _ (read-known L b) (failed_known _ _ (known_of ListLength) none_known)

numbered : (L : Limits) (b list : List ℕ) → ClausesSays L b list (clauses_of L b list).answer
unfolding clauses_of
numbered L b list = says _ (written b list) (refused L b list) (λ (d : ClausesDone). number_in d.answer) (λ (d : ClausesDone). values_in listed_values d.answer) refl refl (clauses-known L b list) refl

pub promised : (L : Limits) (b list : List ℕ) {r : Result Listed Refusal} {list' : List ℕ} → record { answer = r; list = list' } ≡ clauses_of L b list
    → (record { answer = r; list = list' } ≡ clauses_of L b list) × (ClausesSays L b list r × ListSound L b list' r)
promised L b list {r} {list'} e = (e, subst (λ (d : ClausesDone). ClausesSays L b list d.answer × ListSound L b d.list d.answer) (sym e) (numbered L b list, sound L b list))
