-- The clauses of a table are well formed: variables of its pairs, none twice. Where each move has at most one target, each has at most one
-- positive literal. Assumes nothing.
use mathlib.Core.Path.{◌≡◌, refl, sym, ap, ◌∙◌, subst}
use mathlib.Core.Logic.{◌⊎◌, inl, inr, ◌≢◌}
use mathlib.Core.Bool.{Bool, true, false, ◌&&◌, not, true≢false}
use mathlib.Core.List.Memᴰ
use mathlib.Core.List.Memᴰ.{append_cases}
use mathlib.Core.List.Memᴰ.{eq_of_singleton}
use mathlib.Core.List.Memᴰ.{not-nil}
use mathlib.Core.List.{List, [], ◌∷◌, ◌++◌, map, Memᴰ}
use Prim.Native.Nat.{ℕ, suc, ◌+◌, ◌*◌, ◌/◌, ◌%◌, ◌≤◌, ◌<◌, zero-le}
use native.Mathlib.Omega.{arith}
use native.Mathlib.Decide.{ℕ_discrete}
use lib.ListN.{length, get_or}
use lib.Dec.{eqb, ltb}
use borrow.Author.Tests.{eqb-true, eqb-false, ne_eqb, not-true}
use Rattle.lists.specs.Lists.{any, all, filter, upto, mem}
use Rattle.lists.specs.Bits.{has}
use Rattle.lists.proofs.Members.{and-true, any_false, all_of, filter-mem, concat_map-mem, upto-mem, mem-true, mem_of, mem-false}
use Rattle.cnf.specs.Clauses.{distinct, clause_fits, is_positive, Horn}
use Rattle.cnf.proofs.Words.{fits_of}
use Rattle.limits.specs.declared.Limits.{Limits}
use Rattle.pairs.specs.Pairs.{pairs, variable_of}
use Rattle.pairs.specs.Triangles.{together, apart, past, triangle, triangles}
use Rattle.pairs.proofs.Pairs.{variable-below, variable_injective}
use Rattle.pairs.proofs.Triangles.{past-mem}
use Rattle.table_spec.specs.File.{Table}
use Rattle.table_spec.specs.Reading.{WellFormed}
use Rattle.table_spec.specs.Language.{count, byte_of, agreed_on, targets, OneTarget}
use Rattle.table_spec.proofs.Facts.{Fit, internals-fit, calls-fit, returns-fit, targets-mem}
use Rattle.tops_spec.specs.Tops.{top_words, live, live_returns}
use Rattle.clauses_spec.specs.Clauses.{opposite, once, tidy, premise, matching, look_clauses, transitivity, move_clause, move_clauses, return_clause, top_states, return_clauses, clause_list}
use Rattle.clauses_spec.proofs.Tidy.{opposite_half, opposite_sign, once-mem}

-- two literals of one variable are equal or opposite
same-variable : (l k : ℕ) → l / 2 ≡ k / 2 → (k ≡ l) ⊎ (k ≡ opposite l)
same-variable l k e = go (ℕ_discrete k l)
  where
    go : Dec (k ≡ l) → (k ≡ l) ⊎ (k ≡ opposite l)
    go (yes f) = inl f
    go (no f) = inr (omega (arith, opposite_half l, opposite_sign l))

-- ---- a clause's variables

-- every variable below n
abbrev pub VariablesBelow : ℕ → List ℕ → Type 0
VariablesBelow n ls = (l : ℕ) → Memᴰ l ls → l / 2 < n

distinct_cons : (x : ℕ) (xs : List ℕ) → (Memᴰ x xs → ⊥) → distinct xs ≡ true → distinct (x ∷ xs) ≡ true
unfolding distinct
distinct_cons x xs h d = go (mem x xs) refl
  where
    go : (t : Bool) → mem x xs ≡ t → (not t && distinct xs) ≡ true
    go true e = absurd (h (mem-true x xs e))
    go false e = d

-- literals once, and none both ways: no variable twice
once-fresh : (before ls : List ℕ) (l : ℕ) → Memᴰ l before → Memᴰ l (once before ls) → ⊥
unfolding once
once-fresh before [] l b m = not-nil m
once-fresh before (x ∷ ls) l b m = go (mem x before) refl m (once-fresh before ls l b) (once-fresh (x ∷ before) ls l (Memᴰ.tail b))
  where
    go :
        (t : Bool) → mem x before ≡ t → Memᴰ l (elim t [ true ↦ once before ls | false ↦ x ∷ once (x ∷ before) ls ]) → (Memᴰ l (once before ls) → ⊥)
        → (Memᴰ l (once (x ∷ before) ls) → ⊥) → ⊥
    go true e k f g = f k
    go false e (Memᴰ.head h) f g = mem-false x before e l b (sym h)
    go false e (Memᴰ.tail k) f g = g k

once-distinct : (before ls : List ℕ) → ((l k : ℕ) → Memᴰ l ls → Memᴰ k ls → k ≢ opposite l) → distinct (map (λ l. l / 2) (once before ls)) ≡ true
unfolding once distinct
once-distinct before [] h = refl
once-distinct before (x ∷ ls) h = go (mem x before) (once-distinct before ls rest) (once-distinct (x ∷ before) ls rest)
  where
    rest : (l k : ℕ) → Memᴰ l ls → Memᴰ k ls → k ≢ opposite l
    rest l k a b = h l k (Memᴰ.tail a) (Memᴰ.tail b)

    fresh : Memᴰ (x / 2) (map (λ l. l / 2) (once (x ∷ before) ls)) → ⊥
    fresh m = let r = Memᴰ.of_map (λ l. l / 2) (once (x ∷ before) ls) m in twice r.0 r.1 (same-variable x r.0 (sym r.2))
      where
        twice : (k : ℕ) → Memᴰ k (once (x ∷ before) ls) → (k ≡ x) ⊎ (k ≡ opposite x) → ⊥
        twice k j (inl e) = once-fresh (x ∷ before) ls k (Memᴰ.head e) j
        twice k j (inr e) = h x k (Memᴰ.head refl) (Memᴰ.tail (once-mem (x ∷ before) ls k j)) e

    go : (t : Bool) → distinct (map (λ l. l / 2) (once before ls)) ≡ true → distinct (map (λ l. l / 2) (once (x ∷ before) ls)) ≡ true
        → distinct (map (λ l. l / 2) (elim t as (λ (b : Bool). List ℕ) [ true ↦ once before ls | false ↦ x ∷ once (x ∷ before) ls ])) ≡ true
    go true f g = f
    go false f g = distinct_cons (x / 2) (map (λ l. l / 2) (once (x ∷ before) ls)) fresh g

tidy-fits : (n : ℕ) (ls : List ℕ) → VariablesBelow n ls → (c : List ℕ) → Memᴰ c (tidy ls) → clause_fits n c ≡ true
unfolding tidy
tidy-fits n ls h c m = go (any (λ l. mem (opposite l) ls) ls) refl m
  where
    go : (t : Bool) → any (λ l. mem (opposite l) ls) ls ≡ t → Memᴰ c (elim t [ true ↦ [] | false ↦ once [] ls ∷ [] ]) → clause_fits n c ≡ true
    go true e k = absurd (not-nil k)
    go false e k =
        subst (λ (d : List ℕ). clause_fits n d ≡ true) (sym (eq_of_singleton k))
        (fits_of n (once [] ls) (λ l j. h l (once-mem [] ls l j)) (once-distinct [] ls (λ l i a b f. mem-false (opposite l) ls (none l a e) i b (sym f))))
      where
        none : (l : ℕ) → Memᴰ l ls → any (λ l. mem (opposite l) ls) ls ≡ false → mem (opposite l) ls ≡ false
        none l a e = any_false (λ l. mem (opposite l) ls) ls e l a

tidy-mem : (ls c : List ℕ) → Memᴰ c (tidy ls) → (l : ℕ) → Memᴰ l c → Memᴰ l ls
unfolding tidy
tidy-mem ls c m l k = go (any (λ l. mem (opposite l) ls) ls) m
  where
    go : (t : Bool) → Memᴰ c (elim t [ true ↦ [] | false ↦ once [] ls ∷ [] ]) → Memᴰ l ls
    go true j = absurd (not-nil j)
    go false j = once-mem [] ls l (subst (λ (d : List ℕ). Memᴰ l d) (eq_of_singleton j) k)

apart_half : (p q : ℕ) → apart p q / 2 ≡ variable_of p q
apart_half p q = omega arith

together_half : (p q : ℕ) → together p q / 2 ≡ variable_of p q
together_half p q = omega arith

-- ---- positive literals

-- all positive literals are one, and no variable stands twice: at most one is positive
filter_none : (c : List ℕ) → ((l : ℕ) → Memᴰ l c → is_positive l ≡ false) → length (filter is_positive c) ≡ 0
unfolding filter
filter_none [] h = refl
filter_none (l ∷ c) h = rw (h l (Memᴰ.head refl), filter) (filter_none c (λ k m. h k (Memᴰ.tail m)))

distinct_head : (x : ℕ) (xs : List ℕ) → distinct (x ∷ xs) ≡ true → (Memᴰ x xs → ⊥) × (distinct xs ≡ true)
unfolding distinct
distinct_head x xs d = let e = and-true (not (mem x xs)) (distinct xs) d in (λ m. true≢false (sym (mem_of x xs m) ∙ not-true (mem x xs) e.0), e.1)

pub one-positive :
    (c : List ℕ) → distinct (map (λ l. l / 2) c) ≡ true → ((l k : ℕ) → Memᴰ l c → Memᴰ k c → is_positive l ≡ true → is_positive k ≡ true → l ≡ k)
    → length (filter is_positive c) ≤ 1
unfolding filter
one-positive [] d h = zero-le
one-positive (l ∷ c) d h = go (is_positive l) refl (one-positive c (distinct_head (l / 2) (map (λ k. k / 2) c) d).1 (λ a b i j. h a b (Memᴰ.tail i) (Memᴰ.tail j)))
  where
    other : is_positive l ≡ true → (k : ℕ) → Memᴰ k c → (t : Bool) → is_positive k ≡ t → is_positive k ≡ false
    other p k m true e = absurd ((distinct_head (l / 2) (map (λ k. k / 2) c) d).0 (subst (λ (x : ℕ). Memᴰ (x / 2) (map (λ k. k / 2) c)) (sym (h l k (Memᴰ.head refl) (Memᴰ.tail m) p e)) (mathlib.Core.List.Memᴰ.map (λ k. k / 2) m)))
    other p k m false e = e

    go : (t : Bool) → is_positive l ≡ t → length (filter is_positive c) ≤ 1 → length {A = ℕ} (elim t [ true ↦ l ∷ filter is_positive c | false ↦ filter is_positive c ]) ≤ 1
    go true p r = omega (arith, filter_none c (λ k m. other p k m (is_positive k) refl))
    go false p r = r

apart-negative : (p q : ℕ) → is_positive (apart p q) ≡ false
unfolding is_positive
apart-negative p q = ne_eqb ((2 * variable_of p q + 1) % 2) 0 (λ e. omega arith)

-- ---- the kinds of clauses that the list has

module _ (t : Table) where
  pub data Kind (c : List ℕ) : Type 0 where
    look_apart : (p q : ℕ) → p < q → q < count t → c ≡ apart p q ∷ [] → Kind c
    of_three : (x y z : ℕ) → x < pairs (count t) → y < pairs (count t) → z < pairs (count t) → x ≢ y → y ≢ z → x ≢ z → c ≡ (2 * x + 1) ∷ (2 * y + 1) ∷ (2 * z) ∷ [] → Kind c
    of_match : (premises : List ℕ) (p' : ℕ) (qs : List ℕ) → VariablesBelow (pairs (count t)) premises → ((l : ℕ) → Memᴰ l premises → is_positive l ≡ false) → p' < count t
        → ((q : ℕ) → Memᴰ q qs → (q < count t) × (p' ≢ q)) → (OneTarget t → (q s : ℕ) → Memᴰ q qs → Memᴰ s qs → q ≡ s)
        → Memᴰ c (tidy (premises ++ map (together p') qs)) → Kind c

  pair-below : (p q : ℕ) → p < q → q < count t → variable_of p q < pairs (count t)
  pair-below p q l h = variable-below (count t) p q (omega arith) h (omega arith)

  other-pair : (p q r s : ℕ) → p < q → r < s → (p ≡ r → q ≡ s → ⊥) → variable_of p q ≢ variable_of r s
  other-pair p q r s a b d e = let f = variable_injective p q r s a b e in d f.0 f.1

  look_kinds : (c : List ℕ) → Memᴰ c (look_clauses t) → Kind c
  unfolding look_clauses
  look_kinds c m =
      let a = concat_map-mem _ (upto (count t)) c m in
      let b = concat_map-mem _ (upto a.0) c a.2 in
      go a.0 b.0 (upto-mem (count t) a.0 a.1) (upto-mem a.0 b.0 b.1) (eqb (agreed_on (byte_of t b.0)) (agreed_on (byte_of t a.0))) b.2
    where
      go : (q p : ℕ) → q < count t → p < q → (x : Bool) → Memᴰ c (elim x [ true ↦ [] | false ↦ (apart p q ∷ []) ∷ [] ]) → Kind c
      go q p h l true k = absurd (not-nil k)
      go q p h l false k = look_apart p q l h (eq_of_singleton k)

  triangle_kinds : (p q s : ℕ) → p < q → q < s → s < count t → (c : List ℕ) → Memᴰ c (triangle p q s) → Kind c
  unfolding triangle
  triangle_kinds p q s a b l c m =
      go m (pair-below p q a (omega arith)) (pair-below q s b l) (pair-below p s (omega arith) l) (other-pair p q q s a b (λ e f. omega arith)) (other-pair q s p s b (omega arith) (λ e f. omega arith)) (other-pair p q p s a (omega arith) (λ e f. omega arith))
    where
      go : Memᴰ c (triangle p q s) → variable_of p q < pairs (count t) → variable_of q s < pairs (count t) → variable_of p s < pairs (count t)
          → variable_of p q ≢ variable_of q s → variable_of q s ≢ variable_of p s → variable_of p q ≢ variable_of p s → Kind c
      go (Memᴰ.head e) x y z i j k = of_three (variable_of p q) (variable_of q s) (variable_of p s) x y z i j k e
      go (Memᴰ.tail (Memᴰ.head e)) x y z i j k = of_three (variable_of p q) (variable_of p s) (variable_of q s) x z y k (λ f. j (sym f)) i e
      go (Memᴰ.tail (Memᴰ.tail (Memᴰ.head e))) x y z i j k = of_three (variable_of p s) (variable_of q s) (variable_of p q) z y x (λ f. j (sym f)) (λ f. i (sym f)) (λ f. k (sym f)) e
      go (Memᴰ.tail (Memᴰ.tail (Memᴰ.tail x30))) x y z i j k = elim x30 [ ]

  transitivity_kinds : (c : List ℕ) → Memᴰ c (transitivity t) → Kind c
  unfolding transitivity triangles
  transitivity_kinds c m =
      let a = concat_map-mem _ (upto (count t)) c m in
      let b = concat_map-mem _ (past (count t) a.0) c a.2 in
      let d = concat_map-mem _ (past (count t) b.0) c b.2 in
      let lq = past-mem (count t) a.0 b.0 b.1 in
      let ls = past-mem (count t) b.0 d.0 d.1 in
      triangle_kinds a.0 b.0 d.0 lq.0 ls.0 ls.1 c d.2

  premise-below : (p q : ℕ) → p < count t → q < count t → VariablesBelow (pairs (count t)) (premise p q)
  unfolding premise
  premise-below p q a b l m = go (eqb p q) refl m
    where
      go : (x : Bool) → eqb p q ≡ x → Memᴰ l (elim x [ true ↦ [] | false ↦ apart p q ∷ [] ]) → l / 2 < pairs (count t)
      go true e k = absurd (not-nil k)
      go false e k = omega (arith, ap (λ x. x / 2) (eq_of_singleton k), apart_half p q, variable-below (count t) p q a b (eqb-false p q e))

  premise-negative : (p q l : ℕ) → Memᴰ l (premise p q) → is_positive l ≡ false
  unfolding premise
  premise-negative p q l m = go (eqb p q) m
    where
      go : (x : Bool) → Memᴰ l (elim x [ true ↦ [] | false ↦ apart p q ∷ [] ]) → is_positive l ≡ false
      go true k = absurd (not-nil k)
      go false k = ap is_positive (eq_of_singleton k) ∙ apart-negative p q

  -- the records of a key in a section
  matching_kinds : (rs : List (List ℕ)) (key premises : List ℕ) (p' : ℕ) → ((r : List ℕ) → Memᴰ r rs → length r ≡ suc (length key)) → ((q : ℕ) → Memᴰ (key ++ (q ∷ [])) rs → q < count t)
      → (OneTarget t → (q s : ℕ) → Memᴰ (key ++ (q ∷ [])) rs → Memᴰ (key ++ (s ∷ [])) rs → q ≡ s) → VariablesBelow (pairs (count t)) premises → ((l : ℕ) → Memᴰ l premises → is_positive l ≡ false) → p' < count t
      → (c : List ℕ) → Memᴰ c (matching premises p' (targets rs key)) → Kind c
  unfolding matching
  matching_kinds rs key premises p' wide below one h neg l c m = go (mem p' (targets rs key)) refl m
    where
      go : (x : Bool) → mem p' (targets rs key) ≡ x → Memᴰ c (elim x [ true ↦ [] | false ↦ tidy (premises ++ map (together p') (targets rs key)) ]) → Kind c
      go true e k = absurd (not-nil k)
      go false e k =
          of_match premises p' (targets rs key) h neg l
          (λ q j. (below q (targets-mem rs key wide q j), mem-false p' (targets rs key) e q j))
          (λ d q s i j. one d q s (targets-mem rs key wide q i) (targets-mem rs key wide s j)) k

  move_kinds :
      (kind : ℕ) (rs : List (List ℕ)) → Fit t kind 3 rs
      → (OneTarget t → (key : List ℕ) (q s : ℕ) → Memᴰ (key ++ (q ∷ [])) rs → Memᴰ (key ++ (s ∷ [])) rs → q ≡ s) → (c : List ℕ)
      → Memᴰ c (move_clauses rs (count t)) → Kind c
  unfolding move_clauses move_clause
  move_kinds kind rs fit one c m =
      let a = concat_map-mem _ rs c m in
      let b = concat_map-mem _ (upto (count t)) c a.2 in
      let r = a.0 in
      go (get_or r 0 0) (get_or r 1 0) (get_or r 2 0) b.0 (fit.states r a.1 0 (omega arith) (omega arith)) (fit.states r a.1 2 (omega arith) (omega arith)) (upto-mem (count t) b.0 b.1) (eqb b.0 (get_or r 0 0)) b.2
    where
      go : (p a p' q : ℕ) → p < count t → p' < count t → q < count t → (x : Bool) → Memᴰ c (elim x [ true ↦ [] | false ↦ matching (premise p q) p' (targets rs (q ∷ a ∷ [])) ]) → Kind c
      go p a p' q lp lt lq true k = absurd (not-nil k)
      go p a p' q lp lt lq false k =
          matching_kinds rs (q ∷ a ∷ []) (premise p q) p' fit.wide (λ x j. fit.states _ j 2 (omega arith) (omega arith)) (λ d. one d (q ∷ a ∷ [])) (premise-below p q lp lq) (premise-negative p q) lt c k

  return_kinds : Fit t 2 4 t.returns → (c : List ℕ) → Memᴰ c (return_clauses t) → Kind c
  unfolding return_clauses return_clause live_returns top_states
  return_kinds fit c m =
      let a = concat_map-mem _ (live_returns t) c m in
      let b = concat_map-mem _ (upto (count t)) c a.2 in
      let d = concat_map-mem _ (top_states (top_words t) (count t) b.0) c b.2 in
      let r = a.0 in
      let k = (filter-mem (live (top_words t)) t.returns r a.1).0 in
      let j = (filter-mem (has (top_words t) b.0) (upto (count t)) d.0 d.1).0 in
      go (get_or r 0 0) (get_or r 1 0) (get_or r 2 0) (get_or r 3 0) b.0 d.0
      (fit.states r k 0 (omega arith) (omega arith)) (fit.states r k 2 (omega arith) (omega arith)) (fit.states r k 3 (omega arith) (omega arith)) (upto-mem (count t) b.0 b.1) (upto-mem (count t) d.0 j)
      (eqb b.0 (get_or r 0 0) && eqb d.0 (get_or r 2 0)) d.2
    where
      either : (p q s u : ℕ) → p < count t → q < count t → s < count t → u < count t → (l : ℕ) → Memᴰ l (premise p q) ⊎ Memᴰ l (premise s u) → l / 2 < pairs (count t)
      either p q s u lp lq ls lu l (inl j) = premise-below p q lp lq l j
      either p q s u lp lq ls lu l (inr j) = premise-below s u ls lu l j

      negative : (p q s u l : ℕ) → Memᴰ l (premise p q) ⊎ Memᴰ l (premise s u) → is_positive l ≡ false
      negative p q s u l (inl j) = premise-negative p q l j
      negative p q s u l (inr j) = premise-negative s u l j

      go :
          (p a s p' q u : ℕ) → p < count t → s < count t → p' < count t → q < count t → u < count t → (x : Bool)
          → Memᴰ c (elim x [ true ↦ [] | false ↦ matching (premise p q ++ premise s u) p' (targets t.returns (q ∷ a ∷ u ∷ [])) ]) → Kind c
      go p a s p' q u lp ls lt lq lu true k = absurd (not-nil k)
      go p a s p' q u lp ls lt lq lu false k =
          matching_kinds t.returns (q ∷ a ∷ u ∷ []) (premise p q ++ premise s u) p' fit.wide (λ x j. fit.states _ j 3 (omega arith) (omega arith)) (λ d. d.returns (q ∷ a ∷ u ∷ []))
          (λ l j. either p q s u lp lq ls lu l (append_cases (premise p q) j)) (λ l j. negative p q s u l (append_cases (premise p q) j)) lt c k

  pub list_kinds : {L : Limits} → WellFormed L t → (c : List ℕ) → Memᴰ c (clause_list t) → Kind c
  unfolding clause_list
  list_kinds {L} wf c m = five (append_cases (look_clauses t ++ transitivity t ++ move_clauses t.internals (count t) ++ move_clauses t.calls (count t)) m)
    where
      two : Memᴰ c (look_clauses t) ⊎ Memᴰ c (transitivity t) → Kind c
      two (inl k) = look_kinds c k
      two (inr k) = transitivity_kinds c k

      three : Memᴰ c (look_clauses t ++ transitivity t) ⊎ Memᴰ c (move_clauses t.internals (count t)) → Kind c
      three (inl k) = two (append_cases (look_clauses t) k)
      three (inr k) = move_kinds 0 t.internals (internals-fit wf) (λ d. d.internals) c k

      four : Memᴰ c (look_clauses t ++ transitivity t ++ move_clauses t.internals (count t)) ⊎ Memᴰ c (move_clauses t.calls (count t)) → Kind c
      four (inl k) = three (append_cases (look_clauses t ++ transitivity t) k)
      four (inr k) = move_kinds 1 t.calls (calls-fit wf) (λ d. d.calls) c k

      five : Memᴰ c (look_clauses t ++ transitivity t ++ move_clauses t.internals (count t) ++ move_clauses t.calls (count t)) ⊎ Memᴰ c (return_clauses t) → Kind c
      five (inl k) = four (append_cases (look_clauses t ++ transitivity t ++ move_clauses t.internals (count t)) k)
      five (inr k) = return_kinds (returns-fit wf) c k

  -- ---- what each kind is

  three_below : (n x y z : ℕ) → x < n → y < n → z < n → VariablesBelow n ((2 * x + 1) ∷ (2 * y + 1) ∷ (2 * z) ∷ [])
  three_below n x y z a b c l (Memᴰ.head e) = omega arith
  three_below n x y z a b c l (Memᴰ.tail (Memᴰ.head e)) = omega arith
  three_below n x y z a b c l (Memᴰ.tail (Memᴰ.tail (Memᴰ.head e))) = omega arith
  three_below n x y z a b c l (Memᴰ.tail (Memᴰ.tail (Memᴰ.tail x13))) = elim x13 [ ]

  three_distinct : (x y z : ℕ) → x ≢ y → y ≢ z → x ≢ z → distinct ((2 * x + 1) / 2 ∷ (2 * y + 1) / 2 ∷ 2 * z / 2 ∷ []) ≡ true
  unfolding distinct
  three_distinct x y z a b c =
      distinct_cons _ _ first (distinct_cons _ _ (λ m. let e = eq_of_singleton m in b (omega arith)) (distinct_cons _ [] (λ m. not-nil m) refl))
    where
      first : Memᴰ ((2 * x + 1) / 2) ((2 * y + 1) / 2 ∷ 2 * z / 2 ∷ []) → ⊥
      first (Memᴰ.head e) = a (omega arith)
      first (Memᴰ.tail m) = let e = eq_of_singleton m in c (omega arith)

  kind_fits : (c : List ℕ) → Kind c → clause_fits (pairs (count t)) c ≡ true
  unfolding distinct
  kind_fits c (look_apart p q l h e) =
      subst (λ (d : List ℕ). clause_fits (pairs (count t)) d ≡ true) (sym e)
      (fits_of (pairs (count t)) (apart p q ∷ []) (λ k m. omega (arith, ap (λ x. x / 2) (eq_of_singleton m), apart_half p q, pair-below p q l h)) (distinct_cons _ [] (λ m. not-nil m) refl))
  kind_fits c (of_three x y z a b d i j k e) = subst (λ (d : List ℕ). clause_fits (pairs (count t)) d ≡ true) (sym e) (fits_of (pairs (count t)) _ (three_below (pairs (count t)) x y z a b d) (three_distinct x y z i j k))
  kind_fits c (of_match premises p' qs h neg l each one m) = tidy-fits (pairs (count t)) (premises ++ map (together p') qs) (λ l k. either l (append_cases premises k)) c m
    where
      either : (k : ℕ) → Memᴰ k premises ⊎ Memᴰ k (map (together p') qs) → k / 2 < pairs (count t)
      either k (inl j) = h k j
      either k (inr j) = let r = Memᴰ.of_map (together p') qs j in let g = each r.0 r.1 in omega (arith, ap (λ x. x / 2) r.2, together_half p' r.0, variable-below (count t) p' r.0 l g.0 g.1)

  kind_horn : OneTarget t → (c : List ℕ) → Kind c → (l k : ℕ) → Memᴰ l c → Memᴰ k c → is_positive l ≡ true → is_positive k ≡ true → l ≡ k
  unfolding is_positive
  kind_horn d c (look_apart p q _ _ e) l k i j f g = absurd (true≢false (sym f ∙ ap is_positive (eq_of_singleton (subst (λ (x : List ℕ). Memᴰ l x) e i)) ∙ apart-negative p q))
  kind_horn d c (of_three x y z _ _ _ _ _ _ e) l k i j f g = positive-last l (eqb-true (l % 2) 0 f) (subst (λ (x : List ℕ). Memᴰ l x) e i) ∙ sym (positive-last k (eqb-true (k % 2) 0 g) (subst (λ (x : List ℕ). Memᴰ k x) e j))
    where
      positive-last : (l : ℕ) → l % 2 ≡ 0 → Memᴰ l ((2 * x + 1) ∷ (2 * y + 1) ∷ (2 * z) ∷ []) → l ≡ 2 * z
      positive-last l p (Memᴰ.head e) = absurd (omega arith)
      positive-last l p (Memᴰ.tail (Memᴰ.head e)) = absurd (omega arith)
      positive-last l p (Memᴰ.tail (Memᴰ.tail (Memᴰ.head e))) = e
      positive-last l p (Memᴰ.tail (Memᴰ.tail (Memᴰ.tail x24))) = elim x24 [ ]
  kind_horn d c (of_match premises p' qs h neg _ each one m) l k i j f g =
      both (target l f (append_cases premises (tidy-mem _ c m l i))) (target k g (append_cases premises (tidy-mem _ c m k j)))
    where
      target : (x : ℕ) → is_positive x ≡ true → Memᴰ x premises ⊎ Memᴰ x (map (together p') qs) → (q : ℕ) × Memᴰ q qs × (together p' q ≡ x)
      target x f (inl b) = absurd (true≢false (sym f ∙ neg x b))
      target x f (inr b) = Memᴰ.of_map (together p') qs b

      both : (q : ℕ) × Memᴰ q qs × (together p' q ≡ l) → (s : ℕ) × Memᴰ s qs × (together p' s ≡ k) → l ≡ k
      both (q, a, e) (s, b, u) = sym e ∙ ap (together p') (one d q s a b) ∙ u

  -- the list's clauses are well formed
  pub list-fits : {L : Limits} → WellFormed L t → all (clause_fits (pairs (count t))) (clause_list t) ≡ true
  list-fits {L} wf = all_of (clause_fits (pairs (count t))) (clause_list t) (λ c m. kind_fits c (list_kinds wf c m))

  -- "If the VPA is deterministic, we obtain a Horn clause system": one target a move is enough
  pub list_horn : {L : Limits} → WellFormed L t → OneTarget t → Horn (clause_list t)
  unfolding clause_fits
  list_horn {L} wf d = record { one = λ c m. one-positive c (and-true (all (λ l. ltb (l / 2) (pairs (count t))) c) (distinct (map (λ l. l / 2) c)) (kind_fits c (list_kinds wf c m))).1 (kind_horn d c (list_kinds wf c m)) }
