-- The classes numbered by first member, state by state, from the lowest joined states. Assumes nothing.
use mathlib.Core.Path.{◌≡◌, refl, sym, ap, ◌∙◌, subst}
use mathlib.Core.Logic.{◌≢◌}
use mathlib.Core.Bool.{Bool, true, false}
use mathlib.Core.List.{List, [], ◌∷◌, ◌++◌}
use Prim.Native.Nat.{ℕ, zero, suc, ◌+◌, ◌≤◌, ◌<◌, max}
use native.Mathlib.Numerals.{add-one}
use native.Mathlib.Omega.{arith}
use native.Mathlib.Decide.{ℕ_discrete}
use lib.ListN.{length, get_or, set, take, replicate, length-set, length-take}
use lib.Seq.{get_or-take, take-suc-set}
use borrow.Author.Tests.{eq-eqb, ne_eqb}
use Rattle.lists.specs.Lists.{filter, upto}
use Rattle.lists.proofs.Counts.{filter-append}
use Rattle.cnf.specs.Clauses.{value_of}
use Rattle.pairs.specs.Pairs.{pairs, variable_of}
use Rattle.pairs.proofs.Pairs.{variable-below}
use Rattle.table_spec.specs.Maps.{classes}
use Rattle.check_spec.proofs.Numbered.{class-below}
use Rattle.limits.specs.Limits.{state_most}
use Rattle.clauses_spec.specs.Maps.{joined_by, next_class, map_of}
use Rattle.reduce_map.specs.Lowest.{LowestPartner, LowestJoined, MapOf}

-- ---- the first state that passes a test

module _ (f : ℕ → Bool) where
  kept-none : (q : ℕ) → ((p : ℕ) → p < q → f p ≡ false) → filter f (upto q) ≡ []
  unfolding filter upto
  kept-none zero h = refl
  kept-none (suc q) h = filter-append f (upto q) (q ∷ []) ∙ rw (kept-none q (λ p l. h p (omega arith)), h q (omega arith), filter)

  kept-first : (q l : ℕ) → l < q → f l ≡ true → ((p : ℕ) → p < l → f p ≡ false) → (ps : List ℕ) × (filter f (upto q) ≡ l ∷ ps)
  unfolding filter upto
  kept-first zero l h e n = absurd (omega arith)
  kept-first (suc q) l h e n = go (ℕ_discrete l q) (kept-first q l)
    where
      go : Dec (l ≡ q) → (l < q → f l ≡ true → ((p : ℕ) → p < l → f p ≡ false) → (ps : List ℕ) × (filter f (upto q) ≡ l ∷ ps)) → (ps : List ℕ) × (filter f (upto q ++ (q ∷ [])) ≡ l ∷ ps)
      go (yes d) ih =
          let own : f q ≡ true = ap f (sym d) ∙ e in
          ([], filter-append f (upto q) (q ∷ []) ∙ rw (kept-none q (λ p k. n p (omega arith)), own, filter) (ap (λ x. x ∷ []) (sym d)))
      go (no d) ih = let r = ih (omega arith) e n in (r.0 ++ filter f (q ∷ []), filter-append f (upto q) (q ∷ []) ∙ ap (λ xs. xs ++ filter f (q ∷ [])) r.1)

-- ---- one class number more

classes-more : (m : List ℕ) (c : ℕ) → classes (m ++ (c ∷ [])) ≡ max (classes m) (suc c)
unfolding classes
classes-more [] c = omega arith
classes-more (d ∷ m) c = omega (arith, classes-more m c)

joined-true : (v : List ℕ) (p q : ℕ) → value_of v (variable_of p q) ≡ 1 → joined_by v q p ≡ true
unfolding joined_by
joined-true v p q e = eq-eqb _ _ e

joined-false : (v : List ℕ) (p q : ℕ) → value_of v (variable_of p q) ≢ 1 → joined_by v q p ≡ false
unfolding joined_by
joined-false v p q e = ne_eqb _ _ e

-- the first q states are numbered
pub record Numbered (v : List ℕ) (n : ℕ) (map : List ℕ) (next q : ℕ) : Type 0 where
  pub inside : q ≤ n
  pub long : length map ≡ state_most
  pub so_far : take q map ≡ map_of v q
  pub count : next ≡ classes (map_of v q)
  pub few : next ≤ q

pub none-numbered : (v : List ℕ) (n : ℕ) → Numbered v n (replicate state_most 0) 0 0
unfolding map_of classes
none-numbered v n = record { inside = omega arith; long = refl; so_far = refl; count = refl; few = omega arith }

module _ {v : List ℕ} {n next q : ℕ} {low map : List ℕ} (fits : n ≤ state_most) (lowest : LowestJoined v (pairs n) low) (h : Numbered v n map next q) (l : q < n) where
  at_q : LowestPartner v (pairs n) q (get_or low q 0)
  at_q = lowest.each q (omega arith)

  pub low_small : get_or low q 0 ≤ q
  low_small = at_q.within

  nothing_lower : (p : ℕ) → p < get_or low q 0 → joined_by v q p ≡ false
  nothing_lower p a = joined-false v p q (at_q.least p a (variable-below n p q (omega (arith, low_small)) l (omega (arith, low_small))))

  more : (c : ℕ) → next_class (map_of v q) (filter (joined_by v q) (upto q)) ≡ c → (k : ℕ) → max next (suc c) ≡ k → k ≤ q + 1 → Numbered v n (set map q c) k (q + 1)
  unfolding map_of
  more c e k f g = record {
    inside = omega arith;
    long = length-set map q c ∙ h.long;
    so_far = rw add-one (take-suc-set map q c (omega (arith, h.long)) ∙ ap (λ xs. xs ++ (c ∷ [])) h.so_far ∙ ap (λ x. map_of v q ++ (x ∷ [])) (sym e));
    count = rw add-one (sym f ∙ ap (λ x. max x (suc c)) h.count ∙ sym (classes-more (map_of v q) c) ∙ ap (λ x. classes (map_of v q ++ (x ∷ []))) (sym e));
    few = g;
  }

  -- a state with a lower one: that one's class
  pub numbered-joined : get_or low q 0 ≢ q → Numbered v n (set map q (get_or map (get_or low q 0) 0)) next (q + 1)
  unfolding next_class
  numbered-joined d = more (get_or map s 0) (ap (next_class (map_of v q)) r.1 ∙ sym same) next (omega (arith, below, h.count, same)) (omega (arith, h.few))
    where
      s : ℕ
      s = get_or low q 0

      r : (ps : List ℕ) × (filter (joined_by v q) (upto q) ≡ s ∷ ps)
      r = kept-first (joined_by v q) q s (omega (arith, low_small)) (joined-true v s q (at_q.joined d)) nothing_lower

      same : get_or map s 0 ≡ get_or (map_of v q) s 0
      same = sym (get_or-take q map s 0 (omega (arith, low_small))) ∙ ap (λ xs. get_or xs s 0) h.so_far

      below : get_or (map_of v q) s 0 < classes (map_of v q)
      below = class-below (map_of v q) s (omega (arith, low_small, ap length h.so_far, length-take q map, h.long))

  -- a state of its own: a new class
  pub numbered-new : get_or low q 0 ≡ q → Numbered v n (set map q next) (next + 1) (q + 1)
  unfolding next_class
  numbered-new e =
      more next (ap (next_class (map_of v q)) (kept-none (joined_by v q) q (λ p a. nothing_lower p (omega (arith, e)))) ∙ sym h.count) (next + 1) (omega arith) (omega (arith, h.few))

pub numbered-all : {v : List ℕ} {n next q : ℕ} {map : List ℕ} → Numbered v n map next q → n ≤ q → MapOf v n (record { map = map; count = next })
numbered-all {v} {n} {next} {q} {map} h l =
    let e : q ≡ n = omega (arith, h.inside) in
    record { long = h.long; map = subst (λ (k : ℕ). take k map ≡ map_of v k) e h.so_far; count = h.count ∙ ap (λ (k : ℕ). classes (map_of v k)) e }
