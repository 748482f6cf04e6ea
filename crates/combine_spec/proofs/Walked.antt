-- The records of the pairs, walked in the order of the file, are those of the definition. Assumes nothing.
use mathlib.Core.Path.{◌≡◌, refl, sym, ap, ◌∙◌, subst}
use mathlib.Core.Logic.{◌⊎◌, inl, inr}
use mathlib.Core.Bool.{true, true≢false}
use mathlib.Core.List.Memᴰ
use mathlib.Core.List.{List, [], ◌∷◌, ◌++◌, map, append_assoc, Memᴰ}
use Prim.Native.Nat.{ℕ, suc, ◌+◌, ◌*◌, ◌<◌, ◌≤◌}
use native.Mathlib.Nat.{mul-le-mul_right}
use native.Mathlib.Omega.{arith}
use lib.ListN.{length, get_or, take, length-append}
use Rattle.lists.specs.Lists.{filter, upto, same}
use Rattle.lists.proofs.Members.{filter-mem, concat_map-mem, concat_map_of, upto-mem, upto_of, same_true}
use Rattle.limits.specs.declared.Limits.{Limits}
use Rattle.table_spec.specs.File.{Table}
use Rattle.table_spec.specs.Reading.{before, ascend, WellFormed}
use Rattle.table_spec.specs.Language.{count, targets}
use Rattle.table_spec.proofs.Passed.{formed_tested}
use Rattle.table_spec.proofs.Facts.{key_split, targets-mem, mem-targets}
use Rattle.table_spec.proofs.Order.{first_cases, by_first, by_others, ascend_unique}
use Rattle.combine_spec.specs.Combine.{renumbered, pair_of, first_of, second_of, pair_records, intersection_table}
use Rattle.combine_spec.specs.Walk.{pair_targets, walk, walk_moves, walk_returns}
use Rattle.combine_spec.proofs.AllPairs.{AllPairs, Before, ascend-all-pairs, all-pairs-ascend, all-pairs-filter, all-pairs-map, all-pairs-concat_map, all-pairs-upto}
use Rattle.combine_spec.proofs.Records.{Fits, fits, Section, length-renumbered, pair-first, pair-second, pair-again, pairs-exact, pairs-ascend, pairs_section}
use Rattle.combine_spec.proofs.States.{intersection_count}
use Rattle.combine_spec.proofs.Automaton.{internals_section, calls_section, returns_section}

-- ---- a key and its target

-- a record of the numbers under bounds, and one more
pub data Under : List ℕ → List ℕ → Type 0 where
  last : (z : ℕ) → Under [] (z ∷ [])
  more : {c x : ℕ} {cs r : List ℕ} → x < c → Under cs r → Under (c ∷ cs) (x ∷ r)

renumbered-last : (f : ℕ → ℕ) (key : List ℕ) (z : ℕ) → 2 ≤ length key → renumbered f (key ++ (z ∷ [])) ≡ renumbered f key ++ (f z ∷ [])
unfolding renumbered
renumbered-last f [] z h = absurd (omega arith)
renumbered-last f (p ∷ []) z h = absurd (omega arith)
renumbered-last f (p ∷ a ∷ qs) z h = ap (λ xs. f p ∷ a ∷ xs) (mapped qs)
  where
    mapped : (xs : List ℕ) → map f (xs ++ (z ∷ [])) ≡ map f xs ++ (f z ∷ [])
    mapped [] = refl
    mapped (x ∷ xs) = ap (λ ys. f x ∷ ys) (mapped xs)

-- the target of a record that fits is a state
last-below : {t : Table} {kind : ℕ} (key : List ℕ) (q : ℕ) → 2 ≤ length key → Fits t kind (key ++ (q ∷ [])) → q < count t
last-below [] q h f = absurd (omega arith)
last-below (p ∷ []) q h f = absurd (omega arith)
last-below (p ∷ a ∷ qs) q h (fits _ _ _ l k j i) = i q (Memᴰ.append_right qs (Memᴰ.head refl))

-- of two records with one key the earlier has the smaller target
same_key : (key : List ℕ) (x y : ℕ) → before (key ++ (x ∷ [])) (key ++ (y ∷ [])) ≡ true → x < y
unfolding before
same_key [] x y e = go (first_cases x y [] [] e)
  where
    go : (x < y) ⊎ ((x ≡ y) × (before [] [] ≡ true)) → x < y
    go (inl h) = h
    go (inr (h, k)) = absurd (true≢false (sym k))
same_key (k ∷ key) x y e = go (first_cases k k (key ++ (x ∷ [])) (key ++ (y ∷ [])) e) (same_key key x y)
  where
    go : (k < k) ⊎ ((k ≡ k) × (before (key ++ (x ∷ [])) (key ++ (y ∷ [])) ≡ true)) → (before (key ++ (x ∷ [])) (key ++ (y ∷ [])) ≡ true → x < y) → x < y
    go (inl h) ih = absurd (omega arith)
    go (inr (h, j)) ih = ih j

targets-all-pairs : (rs : List (List ℕ)) (key : List ℕ) → ((r : List ℕ) → Memᴰ r rs → length r ≡ suc (length key)) → ascend rs ≡ true → AllPairs (λ (x y : ℕ). x < y) (targets rs key)
unfolding targets
targets-all-pairs rs key wide e = all-pairs-map (λ r. get_or r (length key) 0) (all-pairs-filter (λ r. same key (take (length key) r)) (ascend-all-pairs rs e)) less
  where
    split : (r : List ℕ) → Memᴰ r (filter (λ r. same key (take (length key) r)) rs) → r ≡ key ++ (get_or r (length key) 0 ∷ [])
    split r d = let k = filter-mem (λ r. same key (take (length key) r)) rs r d in key_split r key (wide r k.0) (same_true _ _ k.1)

    less :
        (r s : List ℕ) → Memᴰ r (filter (λ r. same key (take (length key) r)) rs) → Memᴰ s (filter (λ r. same key (take (length key) r)) rs)
        → Before r s → get_or r (length key) 0 < get_or s (length key) 0
    less r s i j h = same_key key _ _ (subst (λ x. before x (key ++ (get_or s (length key) 0 ∷ [])) ≡ true) (split r i) (subst (λ y. before r y ≡ true) (split s j) h))

-- ---- the walk

module _ {t u : Table} {kind w : ℕ} {rs ss : List (List ℕ)} (firsts : Section t kind w rs) (seconds : Section u kind w ss) where
  abbrev m : ℕ
  m = count u

  -- a target of the second is one of its states
  target_below : (key : List ℕ) → 2 ≤ length key → suc (length key) ≡ w → (q : ℕ) → Memᴰ q (targets ss (renumbered (second_of m) key)) → q < m
  target_below key h n q d =
      let e = length-renumbered (second_of m) key in
      last-below (renumbered (second_of m) key) q (omega arith) (seconds.each _ (targets-mem ss (renumbered (second_of m) key) (λ s i. seconds.wide s i ∙ omega arith) q d))

  -- a record of the walk, with its key, is one of each
  pub record Walked (cs key r : List ℕ) : Type 0 where
    pub under : Under cs r
    pub one : Memᴰ (renumbered (first_of m) (key ++ r)) rs
    pub other : Memᴰ (renumbered (second_of m) (key ++ r)) ss

  walked_last : (key : List ℕ) → 2 ≤ length key → suc (length key) ≡ w → (r : List ℕ) → Memᴰ r (walk m rs ss [] key) → Walked [] key r
  unfolding walk pair_targets
  walked_last key h n r d = go (concat_map-mem (λ p. map (λ q. pair_of m p q ∷ []) (targets ss (renumbered (second_of m) key))) (targets rs (renumbered (first_of m) key)) r d)
    where
      inner : (p : ℕ) → Memᴰ p (targets rs (renumbered (first_of m) key)) → (q : ℕ) × Memᴰ q (targets ss (renumbered (second_of m) key)) × (pair_of m p q ∷ [] ≡ r) → Walked [] key r
      inner p i (q, j, e) =
          let l = target_below key h n q j in
          let a = length-renumbered (first_of m) key in
          let b = length-renumbered (second_of m) key in
          let x = targets-mem rs (renumbered (first_of m) key) (λ s k. firsts.wide s k ∙ omega arith) p i in
          let y = targets-mem ss (renumbered (second_of m) key) (λ s k. seconds.wide s k ∙ omega arith) q j in
          subst (Walked [] key) e (record {
            under = last (pair_of m p q);
            one = Memᴰ.cast (renumbered-last (first_of m) key (pair_of m p q) h ∙ ap (λ z. renumbered (first_of m) key ++ (z ∷ [])) (pair-first m p l)) x;
            other = Memᴰ.cast (renumbered-last (second_of m) key (pair_of m p q) h ∙ ap (λ z. renumbered (second_of m) key ++ (z ∷ [])) (pair-second m p l)) y;
          })

      go : (p : ℕ) × Memᴰ p (targets rs (renumbered (first_of m) key)) × Memᴰ r (map (λ q. pair_of m p q ∷ []) (targets ss (renumbered (second_of m) key))) → Walked [] key r
      go (p, i, j) = inner p i (Memᴰ.of_map (λ q. pair_of m p q ∷ []) (targets ss (renumbered (second_of m) key)) j)

  last_walked : (key : List ℕ) → 2 ≤ length key → (r : List ℕ) → Walked [] key r → Memᴰ r (walk m rs ss [] key)
  unfolding walk pair_targets
  last_walked key h r v = go r v.under v.one v.other
    where
      go : (r : List ℕ) → Under [] r → Memᴰ (renumbered (first_of m) (key ++ r)) rs → Memᴰ (renumbered (second_of m) (key ++ r)) ss → Memᴰ r (walk m rs ss [] key)
      go r (last z) i j =
          let x = mem-targets rs (renumbered (first_of m) key) (first_of m z) (Memᴰ.cast (sym (renumbered-last (first_of m) key z h)) i) in
          let y = mem-targets ss (renumbered (second_of m) key) (second_of m z) (Memᴰ.cast (sym (renumbered-last (second_of m) key z h)) j) in
          Memᴰ.cast (λ k. sym (pair-again m z) k ∷ []) (concat_map_of (λ p. map (λ q. pair_of m p q ∷ []) (targets ss (renumbered (second_of m) key))) (targets rs (renumbered (first_of m) key)) (first_of m z) _ x (Memᴰ.map (λ q. pair_of m (first_of m z) q ∷ []) y))

  -- one more byte of the key
  further : (key : List ℕ) (x : ℕ) (r : List ℕ) → (key ++ (x ∷ [])) ++ r ≡ key ++ (x ∷ r)
  further key x r = append_assoc key (x ∷ []) r

  longer : (key : List ℕ) (x : ℕ) → length (key ++ (x ∷ [])) ≡ suc (length key)
  longer key x = length-append key (x ∷ []) ∙ omega arith

  walk-mem : (cs key r : List ℕ) → 2 ≤ length key + length cs → suc (length key + length cs) ≡ w → Memᴰ r (walk m rs ss cs key) → Walked cs key r
  unfolding walk
  walk-mem [] key r h n d = walked_last key (omega arith) (omega arith) r d
  walk-mem (c ∷ cs) key r h n d = go (concat_map-mem (λ x. map (λ r. x ∷ r) (walk m rs ss cs (key ++ (x ∷ [])))) (upto c) r d) (λ x s. walk-mem cs (key ++ (x ∷ [])) s (omega (arith, longer key x)) (omega (arith, longer key x)))
    where
      inner :
          (x : ℕ) → x < c → ((s : List ℕ) → Memᴰ s (walk m rs ss cs (key ++ (x ∷ []))) → Walked cs (key ++ (x ∷ [])) s)
          → (s : List ℕ) × Memᴰ s (walk m rs ss cs (key ++ (x ∷ []))) × (x ∷ s ≡ r) → Walked (c ∷ cs) key r
      inner x l ih (s, j, e) =
          let v = ih s j in
          subst (Walked (c ∷ cs) key) e (record {
            under = more l v.under;
            one = Memᴰ.cast (ap (renumbered (first_of m)) (sym (further key x s))) v.one;
            other = Memᴰ.cast (ap (renumbered (second_of m)) (sym (further key x s))) v.other;
          })

      go :
          (x : ℕ) × Memᴰ x (upto c) × Memᴰ r (map (λ r. x ∷ r) (walk m rs ss cs (key ++ (x ∷ []))))
          → ((x : ℕ) (s : List ℕ) → Memᴰ s (walk m rs ss cs (key ++ (x ∷ []))) → Walked cs (key ++ (x ∷ [])) s) → Walked (c ∷ cs) key r
      go (x, i, j) ih = inner x (upto-mem c x i) (ih x) (Memᴰ.of_map (λ r. x ∷ r) (walk m rs ss cs (key ++ (x ∷ []))) j)

  walk_of : (cs key r : List ℕ) → 2 ≤ length key + length cs → Walked cs key r → Memᴰ r (walk m rs ss cs key)
  unfolding walk
  walk_of [] key r h v = last_walked key (omega arith) r v
  walk_of (c ∷ cs) key r h v = go r v.under v.one v.other (λ x s. walk_of cs (key ++ (x ∷ [])) s (omega (arith, longer key x)))
    where
      go :
          (r : List ℕ) → Under (c ∷ cs) r → Memᴰ (renumbered (first_of m) (key ++ r)) rs → Memᴰ (renumbered (second_of m) (key ++ r)) ss
          → ((x : ℕ) (s : List ℕ) → Walked cs (key ++ (x ∷ [])) s → Memᴰ s (walk m rs ss cs (key ++ (x ∷ [])))) → Memᴰ r (walk m rs ss (c ∷ cs) key)
      go r (more {x = x} {r = s} l o) i j ih =
          let d = ih x s (record { under = o; one = Memᴰ.cast (ap (renumbered (first_of m)) (further key x s)) i; other = Memᴰ.cast (ap (renumbered (second_of m)) (further key x s)) j }) in
          concat_map_of (λ x. map (λ r. x ∷ r) (walk m rs ss cs (key ++ (x ∷ [])))) (upto c) x (x ∷ s) (upto_of c x l) (Memᴰ.map (λ r. x ∷ r) d)

  -- ---- in order

  module _ (rise : ascend rs ≡ true) (rise' : ascend ss ≡ true) where
    last-all-pairs : (key : List ℕ) → 2 ≤ length key → suc (length key) ≡ w → AllPairs Before (walk m rs ss [] key)
    unfolding walk pair_targets
    last-all-pairs key h n =
        let a = length-renumbered (first_of m) key in
        let b = length-renumbered (second_of m) key in
        all-pairs-concat_map (λ p. map (λ q. pair_of m p q ∷ []) (targets ss (renumbered (second_of m) key))) (targets-all-pairs rs (renumbered (first_of m) key) (λ r i. firsts.wide r i ∙ omega arith) rise)
        (λ p i. all-pairs-map (λ q. pair_of m p q ∷ []) (targets-all-pairs ss (renumbered (second_of m) key) (λ r i. seconds.wide r i ∙ omega arith) rise') (λ q q' j k l. by_first _ _ [] [] (omega arith)))
        (λ p p' i i' l r s j k. apart p p' l r s (Memᴰ.of_map (λ q. pair_of m p q ∷ []) (targets ss (renumbered (second_of m) key)) j) (Memᴰ.of_map (λ q. pair_of m p' q ∷ []) (targets ss (renumbered (second_of m) key)) k))
      where
        apart :
            (p p' : ℕ) → p < p' → (r s : List ℕ) → (q : ℕ) × Memᴰ q (targets ss (renumbered (second_of m) key)) × (pair_of m p q ∷ [] ≡ r)
            → (q : ℕ) × Memᴰ q (targets ss (renumbered (second_of m) key)) × (pair_of m p' q ∷ [] ≡ s) → Before r s
        apart p p' l r s (q, d, e) (q', d', e') =
            let k = target_below key h n q d in
            subst (λ x. before x s ≡ true) e (subst (λ y. before (pair_of m p q ∷ []) y ≡ true) e' (by_first _ _ [] [] (omega (arith, mul-le-mul_right {m = suc p} {n = p'} m l))))

    walk-all-pairs : (cs key : List ℕ) → 2 ≤ length key + length cs → suc (length key + length cs) ≡ w → AllPairs Before (walk m rs ss cs key)
    unfolding walk
    walk-all-pairs [] key h n = last-all-pairs key (omega arith) (omega arith)
    walk-all-pairs (c ∷ cs) key h n =
        all-pairs-concat_map (λ x. map (λ r. x ∷ r) (walk m rs ss cs (key ++ (x ∷ [])))) (all-pairs-upto c)
        (λ x d. all-pairs-map (λ r. x ∷ r) (walk-all-pairs cs (key ++ (x ∷ [])) (omega (arith, longer key x)) (omega (arith, longer key x))) (λ r s i j l. by_others x x r s refl l))
        (λ x y i j l r s d e. apart x y l r s (Memᴰ.of_map (λ r. x ∷ r) (walk m rs ss cs (key ++ (x ∷ []))) d) (Memᴰ.of_map (λ r. y ∷ r) (walk m rs ss cs (key ++ (y ∷ []))) e))
      where
        apart :
            (x y : ℕ) → x < y → (r s : List ℕ) → (r' : List ℕ) × Memᴰ r' (walk m rs ss cs (key ++ (x ∷ []))) × (x ∷ r' ≡ r)
            → (s' : List ℕ) × Memᴰ s' (walk m rs ss cs (key ++ (y ∷ []))) × (y ∷ s' ≡ s) → Before r s
        apart x y l r s (r', d, e) (s', d', e') = subst (λ u. before u s ≡ true) e (subst (λ v. before (x ∷ r') v ≡ true) e' (by_first x y r' s' l))

    -- the walk under bounds that all records of the pairs keep
    walk-pairs : (cs : List ℕ) → 2 ≤ length cs → suc (length cs) ≡ w → ((x : List ℕ) → Memᴰ x (pair_records m rs ss) → Under cs x) → walk m rs ss cs [] ≡ pair_records m rs ss
    walk-pairs cs h n under =
        ascend_unique (walk m rs ss cs []) (pair_records m rs ss) (all-pairs-ascend (walk-all-pairs cs [] (omega arith) (omega arith))) (pairs-ascend m rs ss)
        (λ r d. let v = walk-mem cs [] r (omega arith) (omega arith) d in (pairs-exact firsts seconds r).1 (v.one, v.other))
        (λ r d. let e = (pairs-exact firsts seconds r).0 d in walk_of cs [] r (omega arith) (record { under = under r d; one = e.0; other = e.1 }))

-- ---- the sections of the intersection

three_under : {c : Table} {kind : ℕ} {x : List ℕ} → Fits c kind x → length x ≡ 3 → Under (count c ∷ length c.symbols ∷ []) x
three_under (fits p a (q ∷ []) l k j i) e = more l (more k (last q))
three_under (fits p a [] l k j i) e = absurd (omega arith)
three_under (fits p a (q ∷ s ∷ qs) l k j i) e = absurd (omega arith)

four_under : {c : Table} {kind : ℕ} {x : List ℕ} → Fits c kind x → length x ≡ 4 → Under (count c ∷ length c.symbols ∷ count c ∷ []) x
four_under (fits p a (s ∷ q ∷ []) l k j i) e = more l (more k (more (i s (Memᴰ.head refl)) (last q)))
four_under (fits p a [] l k j i) e = absurd (omega arith)
four_under (fits p a (q ∷ []) l k j i) e = absurd (omega arith)
four_under (fits p a (q ∷ s ∷ v ∷ qs) l k j i) e = absurd (omega arith)

module _ {t u : Table} (c : Table) (symbols : c.symbols ≡ t.symbols) (states : count c ≡ count t * count u) where
  moves_walked :
      {kind : ℕ} {rs ss : List (List ℕ)} → Section t kind 3 rs → Section u kind 3 ss → ascend rs ≡ true → ascend ss ≡ true
      → walk_moves (count u) (count c) (length c.symbols) rs ss ≡ pair_records (count u) rs ss
  moves_walked {kind} {rs} {ss} f g r r' =
      let s : Section c kind 3 (pair_records (count u) rs ss) = pairs_section f g symbols states in
      walk-pairs f g r r' (count c ∷ length c.symbols ∷ []) (omega arith) (omega arith) (λ x d. three_under (s.each x d) (s.wide x d))

  returns_walked :
      {kind : ℕ} {rs ss : List (List ℕ)} → Section t kind 4 rs → Section u kind 4 ss → ascend rs ≡ true → ascend ss ≡ true
      → walk_returns (count u) (count c) (length c.symbols) rs ss ≡ pair_records (count u) rs ss
  returns_walked {kind} {rs} {ss} f g r r' =
      let s : Section c kind 4 (pair_records (count u) rs ss) = pairs_section f g symbols states in
      walk-pairs f g r r' (count c ∷ length c.symbols ∷ count c ∷ []) (omega arith) (omega arith) (λ x d. four_under (s.each x d) (s.wide x d))

-- each section of the intersection of two well-formed tables, walked in the order of the file
pub record Sections (t u : Table) : Type 0 where
  pub internals : (intersection_table t u).internals ≡ walk_moves (count u) (count t * count u) (length t.symbols) t.internals u.internals
  pub calls : (intersection_table t u).calls ≡ walk_moves (count u) (count t * count u) (length t.symbols) t.calls u.calls
  pub returns : (intersection_table t u).returns ≡ walk_returns (count u) (count t * count u) (length t.symbols) t.returns u.returns

pub sections_walked : {L : Limits} {t u : Table} → WellFormed L t → WellFormed L u → Sections t u
unfolding intersection_table
sections_walked {L} {t} {u} wf wf' =
    let e = intersection_count t u in
    let a = formed_tested wf in
    let b = formed_tested wf' in
    record {
      internals = sym (subst (λ (n : ℕ). walk_moves (count u) n (length t.symbols) t.internals u.internals ≡ pair_records (count u) t.internals u.internals) e (moves_walked (intersection_table t u) refl e (internals_section wf) (internals_section wf') a.internals-ascend b.internals-ascend));
      calls = sym (subst (λ (n : ℕ). walk_moves (count u) n (length t.symbols) t.calls u.calls ≡ pair_records (count u) t.calls u.calls) e (moves_walked (intersection_table t u) refl e (calls_section wf) (calls_section wf') a.calls-ascend b.calls-ascend));
      returns = sym (subst (λ (n : ℕ). walk_returns (count u) n (length t.symbols) t.returns u.returns ≡ pair_records (count u) t.returns u.returns) e (returns_walked (intersection_table t u) refl e (returns_section wf) (returns_section wf') a.returns-ascend b.returns-ascend));
    }
