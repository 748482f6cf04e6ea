-- The assignment of a map of the states: true at the joined pairs. A map that meets Definition 1 gives one that satisfies the list, so the
-- list is satisfiable. Assumes nothing.
use mathlib.Core.Path.{◌≡◌, refl, sym, ap, ◌∙◌, subst}
use mathlib.Core.Logic.{◌⊎◌, inl, inr, ◌≢◌, ◌↔◌}
use mathlib.Core.Bool.{Bool, true, false}
use mathlib.Core.List.{List, [], ◌∷◌, map}
use Prim.Native.Nat.{ℕ, ◌<◌}
use native.Mathlib.Omega.{arith}
use native.Mathlib.Decide.{ℕ_discrete}
use lib.ListN.{length, replicate, length-map}
use lib.Dec.{eqb}
use borrow.Author.Tests.{eqb-true, eqb-false, ne_eqb}
use Rattle.lists.specs.Lists.{upto}
use Rattle.lists.proofs.Members.{get_d_map, length-upto, get_d_upto}
use Rattle.cnf.specs.Clauses.{value_of, Assignment, Model}
use Rattle.pairs.specs.Pairs.{pairs, variable_of, pair_of}
use Rattle.pairs.proofs.Pairs.{variable_sym, variable-below, pair-ordered, pair-variable, in_order}
use Rattle.vpa.specs.Quotients.{Joined, Raq}
use Rattle.vpa.proofs.Relations.{raq_along, equality_raq}
use Rattle.limits.specs.declared.Limits.{Limits}
use Rattle.table_spec.specs.File.{Table}
use Rattle.table_spec.specs.Reading.{WellFormed}
use Rattle.table_spec.specs.Language.{count, automaton}
use Rattle.tops_spec.proofs.Bounded.{lawful}
use Rattle.tops_spec.proofs.Formed.{bounded}
use Rattle.clauses_spec.specs.Clauses.{clause_list}
use Rattle.clauses_spec.proofs.Related.{Related}
use Rattle.clauses_spec.proofs.Models.{model_raq}

abbrev pub bit : Bool → ℕ
bit true = 1
bit false = 0

module _ (f : ℕ → ℕ) (n : ℕ) where
  -- whether a variable's states are in one class
  unfoldable pub joined_at : ℕ → ℕ
  joined_at x = bit (eqb (f (pair_of x).low) (f (pair_of x).high))

  unfoldable pub assignment_of : List ℕ
  assignment_of = map joined_at (upto (pairs n))

  value_of_lem : (x : ℕ) → x < pairs n → value_of assignment_of x ≡ joined_at x
  unfolding assignment_of
  value_of_lem x h = get_d_map joined_at (upto (pairs n)) x 2 0 (omega (arith, length-upto (pairs n))) ∙ ap joined_at (get_d_upto (pairs n) x 0 h)

  joined-bit : (x : ℕ) → joined_at x < 2
  unfolding joined_at
  joined-bit x = go (eqb (f (pair_of x).low) (f (pair_of x).high))
    where
      go : (t : Bool) → bit t < 2
      go true = omega arith
      go false = omega arith

  pub assigned : Assignment (pairs n) assignment_of
  unfolding assignment_of
  assigned = record { long = length-map (upto (pairs n)) joined_at ∙ length-upto (pairs n); bit = λ x h. omega (arith, value_of_lem x h, joined-bit x) }

  joined_at_lem : (p q : ℕ) → p < q → (joined_at (variable_of p q) ≡ 1) ↔ (f p ≡ f q)
  unfolding joined_at
  joined_at_lem p q l =
      let e = pair-variable p q l in
      subst (λ (x : ℕ). (bit (eqb (f x) (f (pair_of (variable_of p q)).high)) ≡ 1) ↔ (f p ≡ f q)) (sym e.0)
      (subst (λ (y : ℕ). (bit (eqb (f p) (f y)) ≡ 1) ↔ (f p ≡ f q)) (sym e.1) (go (eqb (f p) (f q)) refl))
    where
      go : (t : Bool) → eqb (f p) (f q) ≡ t → (bit t ≡ 1) ↔ (f p ≡ f q)
      go true e = (λ h. eqb-true _ _ e, λ h. refl)
      go false e = (λ h. absurd (omega arith), λ h. absurd (eqb-false _ _ e h))

  value_joined : (p q : ℕ) → p ≢ q → p < n → q < n → (value_of assignment_of (variable_of p q) ≡ 1) ↔ (f p ≡ f q)
  value_joined = in_order (λ p q. p < n → q < n → (value_of assignment_of (variable_of p q) ≡ 1) ↔ (f p ≡ f q)) turn lower
    where
      turn : (p q : ℕ) → (p < n → q < n → (value_of assignment_of (variable_of p q) ≡ 1) ↔ (f p ≡ f q)) → q < n → p < n → (value_of assignment_of (variable_of q p) ≡ 1) ↔ (f q ≡ f p)
      turn p q h a b = (λ e. sym ((h b a).0 (ap (value_of assignment_of) (variable_sym p q) ∙ e)), λ e. ap (value_of assignment_of) (variable_sym q p) ∙ (h b a).1 (sym e))

      lower : (p q : ℕ) → p < q → p < n → q < n → (value_of assignment_of (variable_of p q) ≡ 1) ↔ (f p ≡ f q)
      lower p q l a b =
          let v = value_of_lem (variable_of p q) (variable-below n p q a b (omega arith)) in
          (λ e. (joined_at_lem p q l).0 (sym v ∙ e), λ e. v ∙ (joined_at_lem p q l).1 e)

module _ (t : Table) (f : ℕ → ℕ) where
  pub related_joined : (p q : ℕ) → Related (count t) (assignment_of f (count t)) p q → Joined (automaton t) f p q
  related_joined p q r = record { left = r.left; right = r.right; classes = go r.joined (ℕ_discrete p q) }
    where
      go : (p ≡ q) ⊎ (value_of (assignment_of f (count t)) (variable_of p q) ≡ 1) → Dec (p ≡ q) → f p ≡ f q
      go (inl e) d = ap f e
      go (inr e) (yes d) = ap f d
      go (inr e) (no d) = (value_joined f (count t) p q d r.left r.right).0 e

  pub joined_related : (p q : ℕ) → Joined (automaton t) f p q → Related (count t) (assignment_of f (count t)) p q
  joined_related p q j = go (ℕ_discrete p q)
    where
      go : Dec (p ≡ q) → Related (count t) (assignment_of f (count t)) p q
      go (yes e) = record { left = j.left; right = j.right; joined = inl e }
      go (no d) = record { left = j.left; right = j.right; joined = inr ((value_joined f (count t) p q d j.left j.right).1 j.classes) }

module _ (L : Limits) (t : Table) (wf : WellFormed L t) where
  -- a map that meets Definition 1 satisfies the list
  pub map_model : (f : ℕ → ℕ) → Raq (automaton t) (Joined (automaton t) f) → Model (clause_list t) (pairs (count t)) (assignment_of f (count t))
  map_model f raq =
      (model_raq L t wf (assignment_of f (count t)) (assigned f (count t))).1
      (raq_along (automaton t) (Joined (automaton t) f) (Related (count t) (assignment_of f (count t))) (joined_related t f) (related_joined t f) raq)

  -- the list is satisfiable: nothing joined
  pub nothing_joined : Model (clause_list t) (pairs (count t)) (assignment_of (λ q. q) (count t))
  nothing_joined = map_model (λ q. q) (equality_raq (automaton t) (lawful (bounded wf)))

map_zeros : (g : ℕ → ℕ) → ((x : ℕ) → g x ≡ 0) → (xs : List ℕ) → map g xs ≡ replicate (length xs) 0
map_zeros g h [] = refl
map_zeros g h (x ∷ xs) = λ i. h x i ∷ map_zeros g h xs i

none-at : (n x : ℕ) → joined_at (λ q. q) n x ≡ 0
unfolding joined_at
none-at n x = rw (ne_eqb (pair_of x).low (pair_of x).high (λ e. absurd (omega (arith, pair-ordered x))))

-- nothing joined is all false
pub all-false : (n : ℕ) → assignment_of (λ q. q) n ≡ replicate (pairs n) 0
unfolding assignment_of
all-false n = map_zeros (joined_at (λ q. q) n) (none-at n) (upto (pairs n)) ∙ ap (λ (k : ℕ). replicate {A = ℕ} k 0) (length-upto (pairs n))
