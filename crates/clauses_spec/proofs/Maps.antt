-- The map of an assignment whose relation is transitive: properly numbered, and joining exactly the related states. Assumes nothing.
use mathlib.Core.Path.{◌≡◌, refl, sym, ap, ◌∙◌, subst}
use mathlib.Core.Logic.{inl, inr, ◌↔◌}
use mathlib.Core.Bool.{Bool, true, false, ◌&&◌}
use mathlib.Core.List.Memᴰ.{not-nil}
use mathlib.Core.List.{List, [], ◌∷◌, ◌++◌, Memᴰ}
use Prim.Native.Nat.{ℕ, zero, suc, ◌+◌, ◌≤◌, ◌<◌, max}
use native.Mathlib.Omega.{arith}
use native.Mathlib.Decide.{dec_lt}
use lib.ListN.{length, length-append, get_or-append}
use lib.Seq.{get_or-append_seam}
use lib.Dec.{leb}
use borrow.Author.Tests.{eqb-true, eq-eqb, le-leb}
use Rattle.lists.specs.Lists.{filter, upto}
use Rattle.lists.proofs.Members.{and_of, filter-mem, filter_of, upto-mem, upto_of}
use Rattle.table_spec.specs.Maps.{class_of, classes, numbered_from, numbered}
use Rattle.check_spec.proofs.Numbered.{class-below}
use Rattle.clauses_spec.specs.Maps.{joined_by, next_class, map_of}
use Rattle.clauses_spec.proofs.Related.{Related, related_sym, related_true}

-- ---- class numbers

-- one more class number at the end
numbered_more : (j : ℕ) (m : List ℕ) (c : ℕ) → numbered_from j m ≡ true → c ≤ max j (classes m) → numbered_from j (m ++ (c ∷ [])) ≡ true
unfolding numbered_from classes
numbered_more j [] c h l = and_of (le-leb c j (omega arith)) refl
numbered_more j (d ∷ m) c h l = go (leb d j) h (numbered_more (max j (suc d)) m c)
  where
    go : (t : Bool) → (t && numbered_from (max j (suc d)) m) ≡ true → (numbered_from (max j (suc d)) m ≡ true → c ≤ max (max j (suc d)) (classes m) → numbered_from (max j (suc d)) (m ++ (c ∷ [])) ≡ true)
        → (t && numbered_from (max j (suc d)) (m ++ (c ∷ []))) ≡ true
    go true k ih = ih k (omega arith)
    go false k ih = k

module _ (n : ℕ) (v : List ℕ) (trans : (p q s : ℕ) → Related n v p q → Related n v q s → Related n v p s) where
  -- the map of the first k states
  pub record Classed (k : ℕ) (m : List ℕ) : Type 0 where
    pub long : length m ≡ k
    pub proper : numbered_from 0 m ≡ true
    pub joins : (p q : ℕ) → p < k → q < k → (class_of m p ≡ class_of m q) ↔ Related n v p q

  module _ (k : ℕ) (m : List ℕ) (h : Classed k m) (l : k < n) where
    -- c is the class of state k
    record Class (c : ℕ) : Type 0 where
      small : c ≤ classes m
      members : (p : ℕ) → p < k → (class_of m p ≡ c) ↔ Related n v p k

    related : (p : ℕ) → p < k → joined_by v k p ≡ true → Related n v p k
    unfolding joined_by
    related p b e = record { left = omega arith; right = l; joined = inr (eqb-true _ _ e) }

    joined : (p : ℕ) → p < k → Related n v p k → joined_by v k p ≡ true
    unfolding joined_by
    joined p b r = eq-eqb _ _ (related_true n v r (omega arith))

    class_of_lem : (ps : List ℕ) → filter (joined_by v k) (upto k) ≡ ps → Class (next_class m ps)
    unfolding next_class
    class_of_lem [] e = record {
      small = omega arith;
      members = λ p b. (
        λ f. absurd (omega (arith, class-below m p (omega (arith, h.long)))),
        λ r. absurd (not-nil (subst (λ (ps : List ℕ). Memᴰ p ps) e (filter_of (joined_by v k) (upto k) p (upto_of k p b) (joined p b r)))),
      );
    }
    class_of_lem (s ∷ ps) e =
        let f = filter-mem (joined_by v k) (upto k) s (subst (λ (qs : List ℕ). Memᴰ s qs) (sym e) (Memᴰ.head refl)) in
        let b = upto-mem k s f.0 in
        let r = related s b f.1 in
        record {
          small = omega (arith, class-below m s (omega (arith, h.long)));
          members = λ p c. (λ g. trans p s k ((h.joins p s c b).0 g) r, λ z. (h.joins p s c b).1 (trans p k s z (related_sym n v r)));
        }

    one_more : (c : ℕ) → Class c → Classed (suc k) (m ++ (c ∷ []))
    one_more c g = record { long = omega (arith, length-append m (c ∷ []), h.long); proper = numbered_more 0 m c h.proper (omega (arith, g.small)); joins = λ p q a b. pick p q (dec_lt p k) (dec_lt q k) a b }
      where
        old : (p : ℕ) → p < k → class_of (m ++ (c ∷ [])) p ≡ class_of m p
        old p b = get_or-append m (c ∷ []) 0 p (omega (arith, h.long))

        last : (p : ℕ) → p ≡ k → class_of (m ++ (c ∷ [])) p ≡ c
        last p e = ap (class_of (m ++ (c ∷ []))) (e ∙ sym h.long) ∙ get_or-append_seam m c [] 0

        move :
            (p q : ℕ) {x y : ℕ} → class_of (m ++ (c ∷ [])) p ≡ x → class_of (m ++ (c ∷ [])) q ≡ y → (x ≡ y) ↔ Related n v p q
            → (class_of (m ++ (c ∷ [])) p ≡ class_of (m ++ (c ∷ [])) q) ↔ Related n v p q
        move p q e f k = (λ z. k.0 (sym e ∙ z ∙ f), λ r. e ∙ k.1 r ∙ sym f)

        turn : (p q : ℕ) {x y : ℕ} → (x ≡ y) ↔ Related n v p q → (y ≡ x) ↔ Related n v q p
        turn p q k = (λ z. related_sym n v (k.0 (sym z)), λ r. sym (k.1 (related_sym n v r)))

        at : (p q : ℕ) → q ≡ k → {x : ℕ} → (x ≡ c) ↔ Related n v p k → (x ≡ c) ↔ Related n v p q
        at p q e {x} j = subst (λ (s : ℕ). (x ≡ c) ↔ Related n v p s) (sym e) j

        pick : (p q : ℕ) → Dec (p < k) → Dec (q < k) → p < suc k → q < suc k → (class_of (m ++ (c ∷ [])) p ≡ class_of (m ++ (c ∷ [])) q) ↔ Related n v p q
        pick p q (yes a) (yes b) x y = move p q (old p a) (old q b) (h.joins p q a b)
        pick p q (yes a) (no b) x y = let e : q ≡ k = omega arith in move p q (old p a) (last q e) (at p q e (g.members p a))
        pick p q (no a) (yes b) x y = let e : p ≡ k = omega arith in move p q (last p e) (old q b) (turn q p (at q p e (g.members q b)))
        pick p q (no a) (no b) x y =
            let e : p ≡ k = omega arith in
            let f : q ≡ k = omega arith in
            move p q (last p e) (last q f) (λ z. record { left = omega arith; right = omega arith; joined = inl (e ∙ sym f) }, λ r. refl)

  map_classed : (k : ℕ) → k ≤ n → Classed k (map_of v k)
  unfolding map_of numbered_from
  map_classed zero h = record { long = refl; proper = refl; joins = λ p q a b. absurd (omega arith) }
  map_classed (suc k) h =
      let c = map_classed k (omega arith) in
      one_more k (map_of v k) c h (next_class (map_of v k) (filter (joined_by v k) (upto k))) (class_of_lem k (map_of v k) c h (filter (joined_by v k) (upto k)) refl)

  -- the map of all n states
  pub map-long : length (map_of v n) ≡ n
  map-long = (map_classed n (omega arith)).long

  pub map-numbered : numbered (map_of v n) ≡ true
  unfolding numbered
  map-numbered = (map_classed n (omega arith)).proper

  pub map-joins : (p q : ℕ) → p < n → q < n → (class_of (map_of v n) p ≡ class_of (map_of v n) q) ↔ Related n v p q
  map-joins = (map_classed n (omega arith)).joins
