-- The clauses of the states alone, groups 1 and 2, put one by one. Assumes nothing.
use mathlib.Core.Path.{◌≡◌, sym, ap, ◌∙◌}
use mathlib.Core.Bool.{Bool, true, false}
use mathlib.Core.List.{List, [], ◌∷◌}
use Prim.Native.Nat.{ℕ, ◌+◌, ◌*◌, ◌/◌, ◌≤◌, ◌<◌}
use native.Mathlib.Omega.{arith}
use lib.ListN.{length, get_or}
use lib.Dec.{eqb}
use borrow.Author.Tests.{eq-eqb, ne_eqb}
use Rattle.table_spec.specs.File.{of_states}
use Rattle.lists.specs.Lists.{any, mem, concat_map, upto}
use Rattle.limits.specs.Limits.{state_most}
use Rattle.pairs.specs.declared.Pair.{Pair}
use Rattle.pairs.specs.Pairs.{pairs, pair_of}
use Rattle.pairs.specs.Entries.{pair_in, PairTable}
use Rattle.pairs.specs.Triangles.{together, apart, triangle}
use Rattle.pairs.proofs.Pairs.{pair-ordered, pair-below, variable-pair}
use Rattle.pairs.proofs.Entries.{pair_found}
use Rattle.table_spec.specs.Language.{agreed_on}
use Rattle.clauses_spec.specs.Clauses.{look_clauses}
use Rattle.clauses_emit.specs.declared.literals.Literals.{Literals}
use Rattle.clauses_emit.specs.Emit.{literals_of, with_literal, Holds, State, emit}
use Rattle.clauses_states.specs.Alone.{look_clause}
use Rattle.clauses_emit.proofs.Stepping.{concat_map-pairs}

-- ---- group 1

-- the states of a variable
pub record Placed (n v low high : ℕ) : Type 0 where
  pub low_below : low < n
  pub high_below : high < n
  pub low_is : low ≡ (pair_of v).low
  pub high_is : high ≡ (pair_of v).high

pub placed : {n v i j : ℕ} {t : List ℕ} {x : Pair} → (n ≤ state_most) × PairTable t × (v < pairs n) → x ≡ pair_in t v → i ≡ x.low → j ≡ x.high → Placed n v i j
placed {n} {v} (l, k, h) e f g =
    let w = pair_found n v l k h e in
    let a = f ∙ ap (λ (p : Pair). p.low) w in
    let b = g ∙ ap (λ (p : Pair). p.high) w in
    record { low_below = omega (arith, a, pair-ordered v, pair-below n v h); high_below = omega (arith, b, pair-below n v h); low_is = a; high_is = b }

-- a clause of one literal
pub alone : {none c : Literals} {l : ℕ} → Holds none [] → Holds c (with_literal (literals_of none) l) → Holds c (l ∷ [])
unfolding with_literal mem
alone h k = rw h.same at k

module _ (s : List ℕ) {v low high : ℕ} (w : Placed (length s) v low high) where
  looks : (b : Bool) → eqb (get_or s low 0 / 2) (get_or s high 0 / 2) ≡ b → look_clause (of_states s) (pair_of v).low (pair_of v).high ≡ elim b [ true ↦ [] | false ↦ ((2 * v + 1) ∷ []) ∷ [] ]
  unfolding look_clause agreed_on
  looks b e =
      let f : eqb (get_or s (pair_of v).low 0 / 2) (get_or s (pair_of v).high 0 / 2) ≡ b = (λ i. eqb (get_or s (sym w.low_is i) 0 / 2) (get_or s (sym w.high_is i) 0 / 2)) ∙ e in
      λ i. elim (f i) as (λ _. List (List ℕ)) [ true ↦ [] | false ↦ ((2 * variable-pair v i + 1) ∷ []) ∷ [] ]

  pub look_same : (t : State) → get_or s low 0 / 2 ≡ get_or s high 0 / 2 → t ≡ emit (look_clause (of_states s) (pair_of v).low (pair_of v).high) t
  unfolding emit
  look_same t e = sym (ap (λ cs. emit cs t) (looks true (eq-eqb _ _ e)))

  pub look_other :
      (t : State) {next : State} {c : Literals} → (get_or s low 0 / 2 ≡ get_or s high 0 / 2 → ⊥) → Holds c ((2 * v + 1) ∷ []) → next ≡ emit (literals_of c ∷ []) t
      → next ≡ emit (look_clause (of_states s) (pair_of v).low (pair_of v).high) t
  look_other t d h e = e ∙ ap (λ ls. emit (ls ∷ []) t) h.same ∙ sym (ap (λ cs. emit cs t) (looks false (ne_eqb _ _ d)))

look_clauses_lem : (s : List ℕ) → look_clauses (of_states s) ≡ concat_map (λ v. look_clause (of_states s) (pair_of v).low (pair_of v).high) (upto (pairs (length s)))
unfolding look_clauses look_clause
look_clauses_lem s = sym (concat_map-pairs (look_clause (of_states s)) (length s))

pub looked :
    (s : List ℕ) {end : ℕ} (start : State) {now : State} → end ≡ pairs (length s)
    → now ≡ emit (concat_map (λ v. look_clause (of_states s) (pair_of v).low (pair_of v).high) (upto end)) start → now ≡ emit (look_clauses (of_states s)) start
looked s start e f = f ∙ ap (λ k. emit (concat_map (λ v. look_clause (of_states s) (pair_of v).low (pair_of v).high) (upto k)) start) e ∙ ap (λ cs. emit cs start) (sym (look_clauses_lem s))

-- ---- group 2

pub closed : (p q s : ℕ) {pq ps qs pq' ps' qs' : ℕ} (t : State) {c1 c2 c3 : Literals} {t1 t2 t3 : State}
    → pq ≡ apart p q → ps ≡ apart p s → qs ≡ apart q s → ps' ≡ together p s → qs' ≡ together q s → pq' ≡ together p q
    → Holds c1 (pq ∷ qs ∷ ps' ∷ []) → Holds c2 (pq ∷ ps ∷ qs' ∷ []) → Holds c3 (ps ∷ qs ∷ pq' ∷ [])
    → t1 ≡ emit (literals_of c1 ∷ []) t → t2 ≡ emit (literals_of c2 ∷ []) t1 → t3 ≡ emit (literals_of c3 ∷ []) t2
    → t3 ≡ emit (triangle p q s) t
unfolding emit triangle
closed p q s t {c1} {c2} {c3} a b d a' b' d' h1 h2 h3 e1 e2 e3 =
    let first = apart p q ∷ apart q s ∷ together p s ∷ [] in
    let second = apart p q ∷ apart p s ∷ together q s ∷ [] in
    let third = apart p s ∷ apart q s ∷ together p q ∷ [] in
    let f1 : literals_of c1 ≡ first = h1.same ∙ (λ j. a j ∷ d j ∷ a' j ∷ []) in
    let f2 : literals_of c2 ≡ second = h2.same ∙ (λ j. a j ∷ b j ∷ b' j ∷ []) in
    let f3 : literals_of c3 ≡ third = h3.same ∙ (λ j. b j ∷ d j ∷ d' j ∷ []) in
    e3
    ∙ (λ i. emit (f3 i ∷ []) (e2 i))
    ∙ (λ i. emit (third ∷ []) (emit (f2 i ∷ []) (e1 i)))
    ∙ (λ i. emit (third ∷ []) (emit (second ∷ []) (emit (f1 i ∷ []) t)))
