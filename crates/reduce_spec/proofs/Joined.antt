-- The pairs that a map joins are the true variables of its assignment; so the trial that is held has as many as its map joins, and no map that
-- meets Definition 1 joins more than the ceiling. Assumes nothing.
use mathlib.Core.Path.{◌≡◌, refl, sym, ap, ◌∙◌}
use mathlib.Core.Logic.{inr}
use mathlib.Core.Bool.{Bool, true, false}
use mathlib.Core.List.{List, [], ◌∷◌, ◌++◌, append-nil}
use Prim.Native.Nat.{ℕ, zero, suc, ◌+◌, ◌≤◌, ◌<◌}
use native.Mathlib.Omega.{arith}
use native.Mathlib.Decide.{dec_lt}
use lib.ListN.{length, length-append, get_or-eq_default}
use lib.Dec.{eqb}
use Rattle.lists.specs.Lists.{filter, concat_map, upto}
use Rattle.lists.proofs.Counts.{filter-append, filter_map, concat_map-append}
use Rattle.cnf.specs.Clauses.{value_of, Model}
use Rattle.cnf.specs.Trials.{true_count, not_false, ceiling_of, search_tried}
use Rattle.cnf.specs.Closing.{Formed}
use Rattle.cnf.proofs.Trials.{true-count, nested_count, nested_same, ceiling-most}
use Rattle.pairs.specs.Pairs.{pairs, pair_of}
use Rattle.pairs.proofs.Pairs.{pairs-suc, variable-lt, variable-pair, pair-ordered, pair-variable, pair-below}
use Rattle.limits.specs.declared.Limits.{Limits}
use Rattle.table_spec.specs.File.{Table}
use Rattle.table_spec.specs.Reading.{WellFormed}
use Rattle.table_spec.specs.Language.{count}
use Rattle.table_spec.specs.Maps.{class_of, joins, RaqMap}
use Rattle.clauses_spec.specs.Clauses.{clause_list}
use Rattle.clauses_spec.specs.Maps.{map_of}
use Rattle.clauses_spec.proofs.Related.{Related, related_true}
use Rattle.clauses_spec.proofs.Assignments.{bit, joined_at, assignment_of, assigned, related_joined, map_model}
use Rattle.clauses_spec.proofs.Theorems.{related_of, above}
use Rattle.reduce_spec.specs.Reduce.{joined_pairs}

-- ---- the variables of q's pairs are q in a row, in the order of the lower states

kept-one : (f : ℕ → Bool) (x : ℕ) → length (filter f (x ∷ [])) ≡ bit (f x)
unfolding filter
kept-one f x = go (f x)
  where
    go : (t : Bool) → length {A = ℕ} (elim t [ true ↦ x ∷ [] | false ↦ [] ]) ≡ bit t
    go true = refl
    go false = refl

kept-last : (f : ℕ → Bool) (n : ℕ) → length (filter f (upto (suc n))) ≡ length (filter f (upto n)) + bit (f n)
unfolding upto
kept-last f n = ap length (filter-append f (upto n) (n ∷ [])) ∙ length-append (filter f (upto n)) (filter f (n ∷ [])) ∙ ap (λ (k : ℕ). length (filter f (upto n)) + k) (kept-one f n)

module _ (f : ℕ → ℕ) where
  -- of a variable: its states are in one class
  abbrev joined : ℕ → Bool
  joined x = eqb (f (pair_of x).low) (f (pair_of x).high)

  joined-pair : (q p : ℕ) → p < q → joined (pairs q + p) ≡ eqb (f p) (f q)
  joined-pair q p l =
      let e = pair-variable p q l in
      ap joined (sym (variable-lt p q l)) ∙ (λ i. eqb (f (e.0 i)) (f (e.1 i)))

  column : (q p : ℕ) → p ≤ q → length (filter joined (upto (pairs q + p))) ≡ length (filter joined (upto (pairs q))) + length (filter (λ p. eqb (f p) (f q)) (upto p))
  unfolding upto filter
  column q zero h = let e : pairs q + 0 ≡ pairs q = omega arith in rw e (omega arith)
  column q (suc p) h =
      let e : pairs q + suc p ≡ suc (pairs q + p) = omega arith in
      ap (λ (k : ℕ). length (filter joined (upto k))) e
      ∙ omega (arith, kept-last joined (pairs q + p), kept-last (λ p. eqb (f p) (f q)) p, column q p (omega arith), ap bit (joined-pair q p h))

  rows : (n : ℕ) → length (filter joined (upto (pairs n))) ≡ length (concat_map (λ q. filter (λ p. eqb (f p) (f q)) (upto q)) (upto n))
  unfolding upto filter pairs
  rows zero = refl
  rows (suc n) =
      ap (λ (k : ℕ). length (filter joined (upto k))) (pairs-suc n)
      ∙ column n n (omega arith)
      ∙ ap (λ (k : ℕ). k + length (filter (λ p. eqb (f p) (f n)) (upto n))) (rows n)
      ∙ sym (last n)
    where
      last :
          (n : ℕ)
          → length (concat_map (λ q. filter (λ p. eqb (f p) (f q)) (upto q)) (upto n ++ (n ∷ []))) ≡ length (concat_map (λ q. filter (λ p. eqb (f p) (f q)) (upto q)) (upto n)) + length (filter (λ p. eqb (f p) (f n)) (upto n))
      last n =
          ap length (concat_map-append (λ q. filter (λ p. eqb (f p) (f q)) (upto q)) (upto n) (n ∷ []) ∙ ap (λ (xs : List ℕ). concat_map (λ q. filter (λ p. eqb (f p) (f q)) (upto q)) (upto n) ++ xs) (append-nil (filter (λ p. eqb (f p) (f n)) (upto n))))
          ∙ length-append (concat_map (λ q. filter (λ p. eqb (f p) (f q)) (upto q)) (upto n)) (filter (λ p. eqb (f p) (f n)) (upto n))

one_bit : (t : Bool) → eqb 1 (bit t) ≡ t
one_bit true = refl
one_bit false = refl

-- the true variables of a map's assignment are the pairs that it joins
pub joined-count : (n : ℕ) (m : List ℕ) → true_count (assignment_of (class_of m) n) ≡ joined_pairs n m
unfolding true_count assignment_of joined_at joined_pairs joins
joined-count n m =
    filter_map (eqb 1) (joined_at (class_of m) n) (upto (pairs n))
    ∙ (λ i. length (filter (λ x. one_bit (joined (class_of m) x) i) (upto (pairs n))))
    ∙ rows (class_of m) n

module _ (L : Limits) (t : Table) (wf : WellFormed L t) where
  -- ---- an assignment that satisfies the list is that of its map

  module _ (v : List ℕ) (model : Model (clause_list t) (pairs (count t)) v) where
    abbrev own : List ℕ
    own = assignment_of (class_of (map_of v (count t))) (count t)

    below : (x : ℕ) → value_of own x ≡ 1 → value_of v x ≡ 1
    below x e = go (dec_lt x (pairs (count t)))
      where
        go : Dec (x < pairs (count t)) → value_of v x ≡ 1
        go (no l) = absurd (omega (arith, get_or-eq_default own 2 {n = x} (omega (arith, (assigned (class_of (map_of v (count t))) (count t)).long))))
        go (yes l) =
            let b = pair-below (count t) x l in
            let o = pair-ordered x in
            let r : Related (count t) own (pair_of x).low (pair_of x).high = record { left = omega arith; right = b; joined = inr (ap (value_of own) (variable-pair x) ∙ e) } in
            ap (value_of v) (sym (variable-pair x))
            ∙ related_true (count t) v (related_of L t wf v model (pair_of x).low (pair_of x).high (related_joined t (class_of (map_of v (count t))) (pair_of x).low (pair_of x).high r)) (omega arith)

    same_assignment : v ≡ own
    same_assignment =
        let a = assigned (class_of (map_of v (count t))) (count t) in
        let up = above L t wf v model (class_of (map_of v (count t))) (λ p q j. j.classes) in
        nested_same v own (model.assigns.long ∙ sym a.long) (λ i h. model.assigns.bit i (omega (arith, model.assigns.long))) (λ i h. a.bit i (omega (arith, a.long))) up
        (nested_count own v (a.long ∙ sym model.assigns.long) below)

    -- what is not false in it are the pairs that its map joins
    pub held-joined : not_false v ≡ joined_pairs (count t) (map_of v (count t))
    held-joined =
        sym (true-count v (λ i h. model.assigns.bit i (omega (arith, model.assigns.long))))
        ∙ ap true_count same_assignment
        ∙ joined-count (count t) (map_of v (count t))

  -- ---- "No accepted map joins more than U pairs"

  pub ceiling-pairs :
      (budget : ℕ) → Formed (clause_list t) (pairs (count t)) → (m : List ℕ) → RaqMap t m
      → joined_pairs (count t) m ≤ ceiling_of (search_tried (clause_list t) (pairs (count t)) budget).trials.ceiling
  ceiling-pairs budget formed m raq =
      let few = ceiling-most (clause_list t) (pairs (count t)) budget formed (assignment_of (class_of m) (count t)) (map_model L t wf (class_of m) raq) in
      omega (arith, joined-count (count t) m)
