-- An assignment satisfies a table's list exactly when its relation meets Definition 1. Assumes nothing.
use mathlib.Core.Logic.{◌↔◌}
use mathlib.Core.List.{List, ◌++◌}
use Prim.Native.Nat.{ℕ}
use Rattle.cnf.specs.Clauses.{Assignment, Model}
use Rattle.pairs.specs.Pairs.{pairs}
use Rattle.vpa.specs.Quotients.{Equivalence, Raq}
use Rattle.vpa.proofs.Relations.{Matched, matched_of, raq_of}
use Rattle.limits.specs.declared.Limits.{Limits}
use Rattle.table_spec.specs.File.{Table}
use Rattle.table_spec.specs.Reading.{WellFormed}
use Rattle.table_spec.specs.Language.{count, automaton}
use Rattle.table_spec.proofs.Facts.{internals-fit, calls-fit, returns-fit, look_accepting, look_mark, agreed_look}
use Rattle.tops_spec.proofs.Formed.{told, reachable?}
use Rattle.clauses_spec.specs.Clauses.{look_clauses, transitivity, move_clauses, clause_list}
use Rattle.clauses_spec.proofs.Tidy.{Satisfied}
use Rattle.clauses_spec.proofs.Related.{Related, related_refl, related_sym}
use Rattle.clauses_spec.proofs.Groups.{satisfied-left, satisfied-right, satisfied-both, looks_of, looks_satisfied, Transitive, transitive_of, transitive-satisfied, moves_of, moves-satisfied, returns_of, returns-satisfied}

module _ (L : Limits) (t : Table) (wf : WellFormed L t) (v : List ℕ) (full : Assignment (pairs (count t)) v) where
  abbrev one : List (List ℕ)
  one = look_clauses t

  abbrev two : List (List ℕ)
  two = one ++ transitivity t

  abbrev three : List (List ℕ)
  three = two ++ move_clauses t.internals (count t)

  abbrev four : List (List ℕ)
  four = three ++ move_clauses t.calls (count t)

  pub satisfied-transitive : Satisfied v (clause_list t) → Transitive t v full
  unfolding clause_list
  satisfied-transitive h = transitive_of t v full (satisfied-right v one _ (satisfied-left v _ _ (satisfied-left v _ _ (satisfied-left v _ _ h))))

  pub satisfied_matched : Satisfied v (clause_list t) → Matched (automaton t) (Related (count t) v)
  unfolding clause_list
  satisfied_matched h =
      let h4 = satisfied-left v four _ h in
      let h3 = satisfied-left v three _ h4 in
      let h2 = satisfied-left v two _ h3 in
      record {
        accepting = λ {p} {q} r. look_accepting t p q (looks_of t v full (satisfied-left v one _ h2) p q r);
        marks = λ {p} {q} r. look_mark t p q r.right (looks_of t v full (satisfied-left v one _ h2) p q r);
        internals = λ {p} {q} {p'} {a} r k. moves_of t v full 0 t.internals (internals-fit wf) (satisfied-right v two _ h3) p q p' a r k;
        calls = λ {p} {q} {p'} {a} r k. moves_of t v full 1 t.calls (calls-fit wf) (satisfied-right v three _ h4) p q p' a r k;
        returns = λ {p} {q} {s} {u} {p'} {a} r z tp tq k. returns_of t v full (returns-fit wf) (satisfied-right v four _ h) p q s u p' a r z ((told wf p s z.left).1 tp) ((told wf q u z.right).1 tq) k;
      }

  pub matched_satisfied :
      ((p q : ℕ) → Related (count t) v p q → (automaton t).accepting p ↔ (automaton t).accepting q) → Transitive t v full
      → Matched (automaton t) (Related (count t) v) → Satisfied v (clause_list t)
  unfolding clause_list
  matched_satisfied agree trans h =
      satisfied-both v four _
      (satisfied-both v three _
      (satisfied-both v two _
      (satisfied-both v one _ (looks_satisfied t v full (λ p q r. agreed_look t p q r.left (agree p q r) (λ k. h.marks r))) (transitive-satisfied t v full trans))
      (moves-satisfied t v full 0 t.internals (internals-fit wf) (λ p q p' a r k. h.internals r k)))
      (moves-satisfied t v full 1 t.calls (calls-fit wf) (λ p q p' a r k. h.calls r k)))
      (returns-satisfied t v full (returns-fit wf) (λ p q s u p' a r z hp hq k. h.returns r z ((told wf p s z.left).0 hp) ((told wf q u z.right).0 hq) k))

  related_equivalence : Transitive t v full → Equivalence (automaton t) (Related (count t) v)
  related_equivalence trans = record {
    within = λ r. (r.left, r.right);
    reflexive = λ l. related_refl (count t) v l;
    symmetric = λ r. related_sym (count t) v r;
    transitive = λ {p} {q} {s} r z. trans p q s r z;
  }

  -- "All assignments satisfying Φ represent valid RAQ relations", and the other way
  pub model_raq : Model (clause_list t) (pairs (count t)) v ↔ Raq (automaton t) (Related (count t) v)
  model_raq = (
    λ h. raq_of (automaton t) (Related (count t) v) (related_equivalence (satisfied-transitive h.each)) (λ q s lq ls. reachable? wf q s) (satisfied_matched h.each),
    λ h. record { assigns = full; each = matched_satisfied (λ p q r. h.accepting r) (λ p q s r z. h.equivalence.transitive r z) (matched_of (automaton t) (Related (count t) v) h) },
  )
