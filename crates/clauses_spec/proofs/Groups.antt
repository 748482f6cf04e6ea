-- What each of the five groups says of an assignment: that its relation respects looks, is transitive, and matches moves and returns.
-- Each both ways. Assumes nothing.
use mathlib.Core.Path.{◌≡◌, refl, sym, ap, subst}
use mathlib.Core.Logic.{◌⊎◌, inl, inr, ◌≢◌}
use mathlib.Core.Bool.{Bool, true, false, ◌&&◌, true≢false}
use mathlib.Core.List.Memᴰ
use mathlib.Core.List.Memᴰ.{append_cases}
use mathlib.Core.List.Memᴰ.{eq_of_singleton}
use mathlib.Core.List.Memᴰ.{not-nil}
use mathlib.Core.List.{List, [], ◌∷◌, ◌++◌, map, Memᴰ}
use Prim.Native.Nat.{ℕ, suc, ◌+◌, ◌*◌, ◌/◌, ◌<◌}
use native.Mathlib.Omega.{arith}
use native.Mathlib.Decide.{ℕ_discrete}
use lib.ListN.{length, get_or}
use lib.Dec.{eqb, ltb}
use borrow.Author.Tests.{eqb-true, eqb-false, eq-eqb, ne_eqb, ltb-true, ltb-false}
use Rattle.lists.specs.Lists.{concat_map, upto, mem}
use Rattle.lists.specs.Bits.{has}
use Rattle.lists.proofs.Members.{filter-mem, filter_of, concat_map-mem, concat_map_of, upto-mem, upto_of, mem-false}
use Rattle.cnf.specs.Clauses.{value_of, Right, Assignment}
use Rattle.pairs.specs.Pairs.{pairs, variable_of}
use Rattle.pairs.specs.Triangles.{together, apart, past, triangle, triangles}
use Rattle.pairs.proofs.Pairs.{variable_sym, in_order}
use Rattle.pairs.proofs.Triangles.{past-mem, past_of}
use Rattle.table_spec.specs.File.{Table}
use Rattle.table_spec.specs.Language.{count, byte_of, agreed_on, targets}
use Rattle.table_spec.proofs.Facts.{Fit, three_bytes, four_bytes, targets-mem, mem-targets}
use Rattle.tops_spec.specs.Tops.{top_words, live, live_returns}
use Rattle.clauses_spec.specs.Clauses.{premise, matching, look_clauses, transitivity, move_clause, move_clauses, return_clause, top_states, return_clauses}
use Rattle.clauses_spec.proofs.Tidy.{HasRight, Satisfied, Set, Matches, not-all, itself, to, matching_of, of_matching}
use Rattle.clauses_spec.proofs.Related.{Related, related_refl, related_sym, related_true, variable-bit, related_dec, set-together, premise-set, premise_related, premise-apart, right_positive, positive-right, right-negative, negative-right}

-- ---- a list of clauses, part by part

module _ (v : List ℕ) where
  pub satisfied-left : (cs ds : List (List ℕ)) → Satisfied v (cs ++ ds) → Satisfied v cs
  satisfied-left cs ds h c m = h c (Memᴰ.append_left ds m)

  pub satisfied-right : (cs ds : List (List ℕ)) → Satisfied v (cs ++ ds) → Satisfied v ds
  satisfied-right cs ds h c m = h c (Memᴰ.append_right cs m)

  pub satisfied-both : (cs ds : List (List ℕ)) → Satisfied v cs → Satisfied v ds → Satisfied v (cs ++ ds)
  satisfied-both cs ds h k c m = go (append_cases cs m)
    where
      go : Memᴰ c cs ⊎ Memᴰ c ds → HasRight v c
      go (inl l) = h c l
      go (inr l) = k c l

  pub satisfied-each : {A : Type 0} (f : A → List (List ℕ)) (xs : List A) → ((x : A) → Memᴰ x xs → Satisfied v (f x)) → Satisfied v (concat_map f xs)
  satisfied-each f xs h c m = let r = concat_map-mem f xs c m in h r.0 r.1 c r.2

  pub satisfied-at : {A : Type 0} (f : A → List (List ℕ)) (xs : List A) → Satisfied v (concat_map f xs) → (x : A) → Memᴰ x xs → Satisfied v (f x)
  satisfied-at f xs h x m c k = h c (concat_map_of f xs x c m k)

  -- where a test passes there is no clause
  pub satisfied_unless : (t : Bool) (cs : List (List ℕ)) → (t ≡ false → Satisfied v cs) → Satisfied v (elim t [ true ↦ [] | false ↦ cs ])
  satisfied_unless true cs h = λ c m. absurd (not-nil m)
  satisfied_unless false cs h = h refl

  pub unless_satisfied : (t : Bool) (cs : List (List ℕ)) → Satisfied v (elim t [ true ↦ [] | false ↦ cs ]) → t ≡ false → Satisfied v cs
  unless_satisfied true cs h e = absurd (true≢false e)
  unless_satisfied false cs h e = h

module _ (t : Table) (v : List ℕ) (full : Assignment (pairs (count t)) v) where
  -- ---- 1: joined states look alike

  abbrev pub LooksAgree : Type 0
  LooksAgree = (p q : ℕ) → Related (count t) v p q → agreed_on (byte_of t p) ≡ agreed_on (byte_of t q)

  looks_lower : Satisfied v (look_clauses t) → (p q : ℕ) → p < q → Related (count t) v p q → agreed_on (byte_of t p) ≡ agreed_on (byte_of t q)
  unfolding look_clauses
  looks_lower h p q l r = go (eqb (agreed_on (byte_of t p)) (agreed_on (byte_of t q))) refl (satisfied-at v _ (upto q) (satisfied-at v _ (upto (count t)) h q (upto_of (count t) q r.right)) p (upto_of q p l))
    where
      go : (b : Bool) → eqb (agreed_on (byte_of t p)) (agreed_on (byte_of t q)) ≡ b → Satisfied v (elim b [ true ↦ [] | false ↦ (apart p q ∷ []) ∷ [] ]) → agreed_on (byte_of t p) ≡ agreed_on (byte_of t q)
      go true e s = eqb-true _ _ e
      go false e s =
          let k = s (apart p q ∷ []) (Memᴰ.head refl) in
          absurd (omega (arith, right-negative v (variable_of p q) (subst (λ (x : ℕ). Right v x) (eq_of_singleton k.1) k.2), related_true (count t) v r (omega arith)))

  pub looks_of : Satisfied v (look_clauses t) → LooksAgree
  looks_of h p q r = go (ℕ_discrete p q)
    where
      go : Dec (p ≡ q) → agreed_on (byte_of t p) ≡ agreed_on (byte_of t q)
      go (yes e) = ap (λ x. agreed_on (byte_of t x)) e
      go (no d) = in_order (λ p q. Related (count t) v p q → agreed_on (byte_of t p) ≡ agreed_on (byte_of t q)) (λ p q f k. sym (f (related_sym (count t) v k))) (looks_lower h) p q d r

  pub looks_satisfied : LooksAgree → Satisfied v (look_clauses t)
  unfolding look_clauses
  looks_satisfied h =
      satisfied-each v _ (upto (count t)) (λ q mq. satisfied-each v _ (upto q) (λ p mp. satisfied_unless v (eqb (agreed_on (byte_of t p)) (agreed_on (byte_of t q))) ((apart p q ∷ []) ∷ [])
      (λ e. one p q (upto-mem q p mp) (upto-mem (count t) q mq) (eqb-false _ _ e))))
    where
      one : (p q : ℕ) → p < q → q < count t → agreed_on (byte_of t p) ≢ agreed_on (byte_of t q) → Satisfied v ((apart p q ∷ []) ∷ [])
      one p q l k d c m = subst (λ (x : List ℕ). HasRight v x) (sym (eq_of_singleton m)) (pick (related_dec (count t) v full (omega arith) k))
        where
          pick : Related (count t) v p q ⊎ ((p ≢ q) × (value_of v (variable_of p q) ≡ 0)) → HasRight v (apart p q ∷ [])
          pick (inl r) = absurd (d (h p q r))
          pick (inr z) = (apart p q, Memᴰ.head refl, negative-right v (variable_of p q) z.1)

  -- ---- 2: the relation is transitive

  -- where two of three pairs are true, so is the third
  pub record Gives (x y z : ℕ) : Type 0 where
    pub third : value_of v x ≡ 1 → value_of v y ≡ 1 → value_of v z ≡ 1

  pub record Closed3 (p q s : ℕ) : Type 0 where
    pub over : Gives (variable_of p q) (variable_of q s) (variable_of p s)
    pub low : Gives (variable_of p q) (variable_of p s) (variable_of q s)
    pub high : Gives (variable_of p s) (variable_of q s) (variable_of p q)

  abbrev arrow : ℕ → ℕ → ℕ → List ℕ
  arrow x y z = (2 * x + 1) ∷ (2 * y + 1) ∷ (2 * z) ∷ []

  arrow_gives : (x y z : ℕ) → HasRight v (arrow x y z) → Gives x y z
  arrow_gives x y z (l, Memᴰ.head e, r) = record { third = λ a b. absurd (omega (arith, right-negative v x (subst (λ (k : ℕ). Right v k) e r))) }
  arrow_gives x y z (l, Memᴰ.tail (Memᴰ.head e), r) = record { third = λ a b. absurd (omega (arith, right-negative v y (subst (λ (k : ℕ). Right v k) e r))) }
  arrow_gives x y z (l, Memᴰ.tail (Memᴰ.tail (Memᴰ.head e)), r) = record { third = λ a b. right_positive v z (subst (λ (k : ℕ). Right v k) e r) }
  arrow_gives x y z (l, Memᴰ.tail (Memᴰ.tail (Memᴰ.tail x15)), r) = elim x15 [ ]

  gives_arrow : (x y z : ℕ) → value_of v x < 2 → value_of v y < 2 → Gives x y z → HasRight v (arrow x y z)
  gives_arrow x y z a b g = go (ℕ_discrete (value_of v x) 1) (ℕ_discrete (value_of v y) 1)
    where
      go : Dec (value_of v x ≡ 1) → Dec (value_of v y ≡ 1) → HasRight v (arrow x y z)
      go (no h) d = (2 * x + 1, Memᴰ.head refl, negative-right v x (omega arith))
      go (yes h) (no k) = (2 * y + 1, Memᴰ.tail (Memᴰ.head refl), negative-right v y (omega arith))
      go (yes h) (yes k) = (2 * z, Memᴰ.tail (Memᴰ.tail (Memᴰ.head refl)), positive-right v z (g.third h k))

  triangle-closed : (p q s : ℕ) → Satisfied v (triangle p q s) → Closed3 p q s
  unfolding triangle
  triangle-closed p q s h = record {
    over = arrow_gives _ _ _ (h _ (Memᴰ.head refl));
    low = arrow_gives _ _ _ (h _ (Memᴰ.tail (Memᴰ.head refl)));
    high = arrow_gives _ _ _ (h _ (Memᴰ.tail (Memᴰ.tail (Memᴰ.head refl))));
  }

  closed-triangle : (p q s : ℕ) → p < q → q < s → s < count t → Closed3 p q s → Satisfied v (triangle p q s)
  unfolding triangle
  closed-triangle p q s a b l h c m = go m
    where
      bit : (x y : ℕ) → x < y → y < count t → value_of v (variable_of x y) < 2
      bit x y i j = variable-bit (count t) v full (omega arith) j (omega arith)

      go : Memᴰ c (triangle p q s) → HasRight v c
      go (Memᴰ.head e) = rw e (gives_arrow _ _ _ (bit p q a (omega arith)) (bit q s b l) h.over)
      go (Memᴰ.tail (Memᴰ.head e)) = rw e (gives_arrow _ _ _ (bit p q a (omega arith)) (bit p s (omega arith) l) h.low)
      go (Memᴰ.tail (Memᴰ.tail (Memᴰ.head e))) = rw e (gives_arrow _ _ _ (bit p s (omega arith) l) (bit q s b l) h.high)
      go (Memᴰ.tail (Memᴰ.tail (Memᴰ.tail x12))) = elim x12 [ ]

  all_closed : Satisfied v (transitivity t) → (p q s : ℕ) → p < q → q < s → s < count t → Closed3 p q s
  unfolding transitivity triangles
  all_closed h p q s a b l =
      triangle-closed p q s
      (satisfied-at v _ (past (count t) q)
      (satisfied-at v _ (past (count t) p)
      (satisfied-at v _ (upto (count t)) h p (upto_of (count t) p (omega arith))) q (past_of (count t) p q a (omega arith))) s (past_of (count t) q s b l))

  swap : {x y z : ℕ} → Gives x y z → Gives y x z
  swap g = record { third = λ a b. g.third b a }

  -- three different states in any order
  any_three :
      ((p q s : ℕ) → p < q → q < s → s < count t → Closed3 p q s) → (p q s : ℕ) → p < count t → q < count t → s < count t → p ≢ q → q ≢ s → p ≢ s
      → Gives (variable_of p q) (variable_of q s) (variable_of p s)
  any_three h p q s a b c x y z = go (ltb p q) (ltb q s) (ltb p s) refl refl refl
    where
      go : (i j k : Bool) → ltb p q ≡ i → ltb q s ≡ j → ltb p s ≡ k → Gives (variable_of p q) (variable_of q s) (variable_of p s)
      go true true k e f g = (h p q s (ltb-true p q e) (ltb-true q s f) c).over
      go true false true e f g = rw (variable_sym q s) (h p s q (ltb-true p s g) (omega (arith, ltb-false q s f)) b).high
      go true false false e f g = rw (variable_sym q s, variable_sym p s) (swap (h s p q (omega (arith, ltb-false p s g)) (ltb-true p q e) b).high)
      go false true true e f g = rw (variable_sym p q) (h q p s (omega (arith, ltb-false p q e)) (ltb-true p s g) c).low
      go false true false e f g = rw (variable_sym p q, variable_sym p s) (swap (h q s p (ltb-true q s f) (omega (arith, ltb-false p s g)) a).low)
      go false false k e f g = rw (variable_sym p q, variable_sym q s, variable_sym p s) (swap (h s q p (omega (arith, ltb-false q s f)) (omega (arith, ltb-false p q e)) a).over)

  abbrev pub Transitive : Type 0
  Transitive = (p q s : ℕ) → Related (count t) v p q → Related (count t) v q s → Related (count t) v p s

  pub transitive_of : Satisfied v (transitivity t) → Transitive
  transitive_of h p q s a b = go (ℕ_discrete p q) (ℕ_discrete q s) (ℕ_discrete p s)
    where
      go : Dec (p ≡ q) → Dec (q ≡ s) → Dec (p ≡ s) → Related (count t) v p s
      go (yes e) d z = subst (λ (x : ℕ). Related (count t) v x s) (sym e) b
      go (no d) (yes e) z = subst (λ (x : ℕ). Related (count t) v p x) e a
      go (no d) (no e) (yes z) = record { left = a.left; right = b.right; joined = inl z }
      go (no d) (no e) (no z) = record {
        left = a.left;
        right = b.right;
        joined = inr ((any_three (all_closed h) p q s a.left a.right b.right d e z).third (related_true (count t) v a d) (related_true (count t) v b e));
      }

  pub transitive-satisfied : Transitive → Satisfied v (transitivity t)
  unfolding transitivity triangles
  transitive-satisfied h =
      satisfied-each v _ (upto (count t)) (λ p mp. satisfied-each v _ (past (count t) p) (λ q mq. satisfied-each v _ (past (count t) q) (λ s ms.
      let lq = past-mem (count t) p q mq in
      let ls = past-mem (count t) q s ms in
      closed-triangle p q s lq.0 ls.0 ls.1 (closed p q s lq.0 ls.0 ls.1))))
    where
      pair : (x y : ℕ) → x < count t → y < count t → value_of v (variable_of x y) ≡ 1 → Related (count t) v x y
      pair x y i j e = record { left = i; right = j; joined = inr e }

      back : (x y : ℕ) → x < count t → y < count t → value_of v (variable_of x y) ≡ 1 → Related (count t) v y x
      back x y i j e = related_sym (count t) v (pair x y i j e)

      closed : (p q s : ℕ) → p < q → q < s → s < count t → Closed3 p q s
      closed p q s a b l =
          let lq : q < count t = omega arith in
          let lp : p < count t = omega arith in
          record {
            over = record { third = λ e f. related_true (count t) v (h p q s (pair p q lp lq e) (pair q s lq l f)) (omega arith) };
            low = record { third = λ e f. related_true (count t) v (h q p s (back p q lp lq e) (pair p s lp l f)) (omega arith) };
            high = record { third = λ e f. related_true (count t) v (h p s q (pair p s lp l e) (back q s lq l f)) (omega arith) };
          }

  -- ---- 3 to 5: premises, and a record of the key to a related target

  abbrev pub Reaches : List (List ℕ) → List ℕ → ℕ → Type 0
  Reaches rs key p' = (q' : ℕ) × Memᴰ (key ++ (q' ∷ [])) rs × Related (count t) v p' q'

  module _ (rs : List (List ℕ)) (key : List ℕ) (p' : ℕ) (wide : (r : List ℕ) → Memᴰ r rs → length r ≡ suc (length key)) (below : (q : ℕ) → Memᴰ (key ++ (q ∷ [])) rs → q < count t) (here : p' < count t) where
    reaches_of : (premises : List ℕ) → Set v premises → (HasRight v premises → ⊥) → Satisfied v (matching premises p' (targets rs key)) → Reaches rs key p'
    reaches_of premises set none h = go (of_matching v premises p' (targets rs key) sets h)
      where
        sets : mem p' (targets rs key) ≡ false → Set v (premises ++ map (together p') (targets rs key))
        sets e l m = pick (append_cases premises m)
          where
            pick : Memᴰ l premises ⊎ Memᴰ l (map (together p') (targets rs key)) → value_of v (l / 2) < 2
            pick (inl k) = set l k
            pick (inr k) =
                let j = Memᴰ.of_map (together p') (targets rs key) k in
                subst (λ (x : ℕ). value_of v (x / 2) < 2) j.2 (set-together (count t) v full here (below j.0 (targets-mem rs key wide j.0 j.1)) (mem-false p' (targets rs key) e j.0 j.1))

        go : Matches v premises p' (targets rs key) → Reaches rs key p'
        go (not-all r) = absurd (none r)
        go (itself m) = (p', targets-mem rs key wide p' m, related_refl (count t) v here)
        go (to q' m r) =
            let k = targets-mem rs key wide q' m in
            (q', k, record { left = here; right = below q' k; joined = inr (right_positive v (variable_of p' q') r) })

    reaches_satisfied : (premises : List ℕ) → HasRight v premises ⊎ Reaches rs key p' → Satisfied v (matching premises p' (targets rs key))
    reaches_satisfied premises (inl r) = matching_of v premises p' (targets rs key) (not-all r)
    reaches_satisfied premises (inr (q', m, r)) = matching_of v premises p' (targets rs key) (go r.joined)
      where
        go : (p' ≡ q') ⊎ (value_of v (variable_of p' q') ≡ 1) → Matches v premises p' (targets rs key)
        go (inl e) = itself (subst (λ (x : ℕ). Memᴰ x (targets rs key)) (sym e) (mem-targets rs key q' m))
        go (inr e) = to q' (mem-targets rs key q' m) (positive-right v (variable_of p' q') e)

  -- ---- 3 and 4: moves are matched

  module _ (kind : ℕ) (rs : List (List ℕ)) (fit : Fit t kind 3 rs) where
    abbrev pub MovesMatch : Type 0
    MovesMatch = (p q p' a : ℕ) → Related (count t) v p q → Memᴰ (p ∷ a ∷ p' ∷ []) rs → (q' : ℕ) × Memᴰ (q ∷ a ∷ q' ∷ []) rs × Related (count t) v p' q'

    target_below : {p a q : ℕ} → Memᴰ (p ∷ a ∷ q ∷ []) rs → q < count t
    target_below m = fit.states _ m 2 (omega arith) (omega arith)

    pub moves_of : Satisfied v (move_clauses rs (count t)) → MovesMatch
    unfolding move_clauses move_clause
    moves_of h p q p' a r m = go (ℕ_discrete q p)
      where
        go : Dec (q ≡ p) → (q' : ℕ) × Memᴰ (q ∷ a ∷ q' ∷ []) rs × Related (count t) v p' q'
        go (yes e) = (p', subst (λ (x : ℕ). Memᴰ (x ∷ a ∷ p' ∷ []) rs) (sym e) m, related_refl (count t) v (target_below m))
        go (no d) =
            reaches_of rs (q ∷ a ∷ []) p' fit.wide (λ x k. target_below k) (target_below m) (premise p q) (premise-set (count t) v full r.left r.right) (premise_related (count t) v r)
            (unless_satisfied v (eqb q p) _ (satisfied-at v _ (upto (count t)) (satisfied-at v _ rs h (p ∷ a ∷ p' ∷ []) m) q (upto_of (count t) q r.right)) (ne_eqb q p d))

    pub moves-satisfied : MovesMatch → Satisfied v (move_clauses rs (count t))
    unfolding move_clauses move_clause
    moves-satisfied h = satisfied-each v _ rs (λ r mr. satisfied-each v _ (upto (count t)) (λ q mq. satisfied_unless v (eqb q (get_or r 0 0)) _ (λ e.
        one (get_or r 0 0) (get_or r 1 0) (get_or r 2 0) q (subst (λ (x : List ℕ). Memᴰ x rs) (three_bytes r (fit.wide r mr)) mr) (upto-mem (count t) q mq))))
      where
        one : (p a p' q : ℕ) → Memᴰ (p ∷ a ∷ p' ∷ []) rs → q < count t → Satisfied v (matching (premise p q) p' (targets rs (q ∷ a ∷ [])))
        one p a p' q m l = reaches_satisfied rs (q ∷ a ∷ []) p' fit.wide (λ x k. target_below k) (target_below m) (premise p q) (pick (related_dec (count t) v full (fit.states _ m 0 (omega arith) (omega arith)) l))
          where
            pick : Related (count t) v p q ⊎ ((p ≢ q) × (value_of v (variable_of p q) ≡ 0)) → HasRight v (premise p q) ⊎ Reaches rs (q ∷ a ∷ []) p'
            pick (inl r) = inr (h p q p' a r m)
            pick (inr z) = inl (premise-apart (count t) v z.0 z.1)

  -- ---- 5: live returns are matched over reachable tops

  append-none : (xs ys : List ℕ) → (HasRight v xs → ⊥) → (HasRight v ys → ⊥) → HasRight v (xs ++ ys) → ⊥
  append-none xs ys h k (l, m, r) = go (append_cases xs m)
    where
      go : Memᴰ l xs ⊎ Memᴰ l ys → ⊥
      go (inl j) = h (l, j, r)
      go (inr j) = k (l, j, r)

  append-set : (xs ys : List ℕ) → Set v xs → Set v ys → Set v (xs ++ ys)
  append-set xs ys h k l m = go (append_cases xs m)
    where
      go : Memᴰ l xs ⊎ Memᴰ l ys → value_of v (l / 2) < 2
      go (inl j) = h l j
      go (inr j) = k l j

  module _ (fit : Fit t 2 4 t.returns) where
    abbrev pub ReturnsMatch : Type 0
    ReturnsMatch =
        (p q s u p' a : ℕ) → Related (count t) v p q → Related (count t) v s u → has (top_words t) p s ≡ true → has (top_words t) q u ≡ true
        → Memᴰ (p ∷ a ∷ s ∷ p' ∷ []) t.returns → (q' : ℕ) × Memᴰ (q ∷ a ∷ u ∷ q' ∷ []) t.returns × Related (count t) v p' q'

    end_below : {p a s q : ℕ} → Memᴰ (p ∷ a ∷ s ∷ q ∷ []) t.returns → q < count t
    end_below m = fit.states _ m 3 (omega arith) (omega arith)

    pub returns-satisfied : ReturnsMatch → Satisfied v (return_clauses t)
    unfolding return_clauses return_clause live_returns live top_states
    returns-satisfied h = satisfied-each v _ (live_returns t) (λ r mr. satisfied-each v _ (upto (count t)) (λ q mq. satisfied-each v _ (top_states (top_words t) (count t) q) (λ u mu. satisfied_unless v (eqb q (get_or r 0 0) && eqb u (get_or r 2 0)) _ (λ e.
        let k = filter-mem (live (top_words t)) t.returns r mr in
        let j = filter-mem (has (top_words t) q) (upto (count t)) u mu in
        one (get_or r 0 0) (get_or r 1 0) (get_or r 2 0) (get_or r 3 0) q u k.1 j.1 (subst (λ (x : List ℕ). Memᴰ x t.returns) (four_bytes r (fit.wide r k.0)) k.0) (upto-mem (count t) q mq) (upto-mem (count t) u j.0)))))
      where
        one :
            (p a s p' q u : ℕ) → has (top_words t) p s ≡ true → has (top_words t) q u ≡ true → Memᴰ (p ∷ a ∷ s ∷ p' ∷ []) t.returns → q < count t
            → u < count t → Satisfied v (matching (premise p q ++ premise s u) p' (targets t.returns (q ∷ a ∷ u ∷ [])))
        one p a s p' q u hp hq m lq lu =
            reaches_satisfied t.returns (q ∷ a ∷ u ∷ []) p' fit.wide (λ x k. end_below k) (end_below m) (premise p q ++ premise s u)
            (pick (related_dec (count t) v full (fit.states _ m 0 (omega arith) (omega arith)) lq) (related_dec (count t) v full (fit.states _ m 2 (omega arith) (omega arith)) lu))
          where
            pick :
                Related (count t) v p q ⊎ ((p ≢ q) × (value_of v (variable_of p q) ≡ 0)) → Related (count t) v s u ⊎ ((s ≢ u) × (value_of v (variable_of s u) ≡ 0))
                → HasRight v (premise p q ++ premise s u) ⊎ Reaches t.returns (q ∷ a ∷ u ∷ []) p'
            pick (inr z) k = let r = premise-apart (count t) v z.0 z.1 in inl (r.0, Memᴰ.append_left (premise s u) r.1, r.2)
            pick (inl k) (inr z) = let r = premise-apart (count t) v z.0 z.1 in inl (r.0, Memᴰ.append_right (premise p q) r.1, r.2)
            pick (inl k) (inl j) = inr (h p q s u p' a k j hp hq m)

    pub returns_of : Satisfied v (return_clauses t) → ReturnsMatch
    unfolding return_clauses return_clause live_returns live top_states
    returns_of h p q s u p' a r z hp hq m = go (ℕ_discrete q p) (ℕ_discrete u s)
      where
        found : (eqb q p && eqb u s) ≡ false → (q' : ℕ) × Memᴰ (q ∷ a ∷ u ∷ q' ∷ []) t.returns × Related (count t) v p' q'
        found e =
            reaches_of t.returns (q ∷ a ∷ u ∷ []) p' fit.wide (λ x k. end_below k) (end_below m) (premise p q ++ premise s u)
            (append-set (premise p q) (premise s u) (premise-set (count t) v full r.left r.right) (premise-set (count t) v full z.left z.right))
            (append-none (premise p q) (premise s u) (premise_related (count t) v r) (premise_related (count t) v z))
            (unless_satisfied v (eqb q p && eqb u s) _
            (satisfied-at v _ (top_states (top_words t) (count t) q)
            (satisfied-at v _ (upto (count t))
            (satisfied-at v _ (live_returns t) h (p ∷ a ∷ s ∷ p' ∷ []) (filter_of (live (top_words t)) t.returns (p ∷ a ∷ s ∷ p' ∷ []) m hp)) q (upto_of (count t) q r.right))
            u (filter_of (has (top_words t) q) (upto (count t)) u (upto_of (count t) u z.right) hq)) e)

        go : Dec (q ≡ p) → Dec (u ≡ s) → (q' : ℕ) × Memᴰ (q ∷ a ∷ u ∷ q' ∷ []) t.returns × Related (count t) v p' q'
        go (yes e) (yes f) = (p', subst (λ (x : List ℕ). Memᴰ x t.returns) (λ i. sym e i ∷ a ∷ sym f i ∷ p' ∷ []) m, related_refl (count t) v (end_below m))
        go (no d) f = found (rw (ne_eqb q p d))
        go (yes e) (no f) = found (rw (eq-eqb q p e, ne_eqb u s f))
