-- The records of two tables combined: what each is made of, that it fits, and that they ascend. One law for every width. Assumes nothing.
use mathlib.Core.Path.{◌≡◌, refl, sym, ap, ◌∙◌, subst}
use mathlib.Core.Logic.{◌↔◌, ◌⊎◌, inl, inr}
use mathlib.Core.Bool.{true, true≢false}
use mathlib.Core.List.Memᴰ
use mathlib.Core.List.Memᴰ.{append_cases}
use mathlib.Core.List.Memᴰ.{not-nil}
use mathlib.Core.List.{List, [], ◌∷◌, map, Memᴰ}
use Prim.Native.Nat.{ℕ, suc, ◌+◌, ◌*◌, ◌<◌}
use native.Mathlib.Nat.{mod-eq_of_lt, div-eq_of_lt, div-add-mod', mul-add-div_right, mul-add-mod_self_right, mul-le-mul_right}
use native.Mathlib.Omega.{arith}
use lib.ListN.{length, get_or, length-map}
use lib.Dec.{eqb, ltb}
use borrow.Author.Tests.{eqb-true, eq-eqb, ltb-true, lt-ltb}
use Rattle.lists.specs.Lists.{filter}
use Rattle.lists.proofs.Members.{and-true, and_of, all_true, all_of, filter-mem, filter_of, concat_map-mem, concat_map_of}
use Rattle.table_spec.specs.File.{Table}
use Rattle.table_spec.specs.Reading.{record_fits, before, ascend}
use Rattle.table_spec.specs.Language.{count}
use Rattle.table_spec.proofs.Order.{first_cases, by_first, by_others}
use Rattle.quotient_spec.proofs.Ascending.{ascending-mem, ascending_of, ascending_ascends}
use Rattle.combine_spec.specs.Combine.{renumbered, pair_of, first_of, second_of, pair_each, pair_record, by_same_symbol, pair_records, both_records}
use Rattle.combine_spec.proofs.AllPairs.{AllPairs, Before, ascend-all-pairs, all-pairs-ascend, all-pairs-append, all-pairs-map}

-- ---- a record that fits, taken apart

pub data Fits (t : Table) (kind : ℕ) : List ℕ → Type 0 where
  fits : (p a : ℕ) (qs : List ℕ) → p < count t → a < length t.symbols → get_or t.symbols a 0 ≡ kind → ((q : ℕ) → Memᴰ q qs → q < count t) → Fits t kind (p ∷ a ∷ qs)

pub fits-true : (t : Table) (kind : ℕ) (r : List ℕ) → record_fits t kind r ≡ true → Fits t kind r
unfolding record_fits
fits-true t kind [] e = absurd (true≢false (sym e))
fits-true t kind (p ∷ []) e = absurd (true≢false (sym e))
fits-true t kind (p ∷ a ∷ qs) e =
    let e1 = and-true _ _ e in
    let e2 = and-true _ _ e1.0 in
    let e3 = and-true (ltb a (length t.symbols)) (eqb (get_or t.symbols a 0) kind) e2.1 in
    fits p a qs (ltb-true _ _ e2.0) (ltb-true _ _ e3.0) (eqb-true _ _ e3.1) (λ q d. ltb-true q (count t) (all_true (λ q. ltb q (count t)) qs e1.1 q d))

pub fits_of : {t : Table} {kind : ℕ} {r : List ℕ} → Fits t kind r → record_fits t kind r ≡ true
unfolding record_fits
fits_of {t} (fits p a qs l k j h) = and_of (and_of (lt-ltb _ _ l) (and_of (lt-ltb _ _ k) (eq-eqb _ _ j))) (all_of (λ q. ltb q (count t)) qs (λ q d. lt-ltb _ _ (h q d)))

-- the records of a section
pub record Section (t : Table) (kind w : ℕ) (rs : List (List ℕ)) : Type 0 where
  pub wide : (r : List ℕ) → Memᴰ r rs → length r ≡ w
  pub each : (r : List ℕ) → Memᴰ r rs → Fits t kind r

-- ---- a record whose states have other numbers

module _ (f : ℕ → ℕ) where
  pub length-renumbered : (r : List ℕ) → length (renumbered f r) ≡ length r
  unfolding renumbered
  length-renumbered [] = refl
  length-renumbered (p ∷ []) = refl
  length-renumbered (p ∷ a ∷ qs) = ap (λ n. suc (suc n)) (length-map qs f)

  pub renumbered-fits : {t c : Table} {kind : ℕ} {r : List ℕ} → c.symbols ≡ t.symbols → ((q : ℕ) → q < count t → f q < count c) → Fits t kind r → Fits c kind (renumbered f r)
  unfolding renumbered
  renumbered-fits {t} {c} e h (fits p a qs l k j i) = fits (f p) a (map f qs) (h p l) (rw e k) (rw e j) (λ q d. below q (Memᴰ.of_map f qs d))
    where
      below : (q : ℕ) → (x : ℕ) × Memᴰ x qs × (f x ≡ q) → q < count c
      below q (x, d, g) = subst (λ (y : ℕ). y < count c) g (h x (i x d))

  module _ (mono : (x y : ℕ) → x < y → f x < f y) where
    map-before : (xs ys : List ℕ) → before xs ys ≡ true → before (map f xs) (map f ys) ≡ true
    unfolding before
    map-before [] [] e = e
    map-before [] (y ∷ ys) e = refl
    map-before (x ∷ xs) [] e = e
    map-before (x ∷ xs) (y ∷ ys) e = go (first_cases x y xs ys e) (map-before xs ys)
      where
        go : (x < y) ⊎ ((x ≡ y) × (before xs ys ≡ true)) → (before xs ys ≡ true → before (map f xs) (map f ys) ≡ true) → before (f x ∷ map f xs) (f y ∷ map f ys) ≡ true
        go (inl l) ih = by_first (f x) (f y) (map f xs) (map f ys) (mono x y l)
        go (inr (h, k)) ih = by_others (f x) (f y) (map f xs) (map f ys) (ap f h) (ih k)

    renumbered-before : {t : Table} {kind : ℕ} {r s : List ℕ} → Fits t kind r → Fits t kind s → before r s ≡ true → before (renumbered f r) (renumbered f s) ≡ true
    unfolding renumbered
    renumbered-before (fits p a ps l k j i) (fits p' b qs l' k' j' i') e = go (first_cases p p' (a ∷ ps) (b ∷ qs) e)
      where
        rest : (a < b) ⊎ ((a ≡ b) × (before ps qs ≡ true)) → before (a ∷ map f ps) (b ∷ map f qs) ≡ true
        rest (inl h) = by_first a b (map f ps) (map f qs) h
        rest (inr (h, g)) = by_others a b (map f ps) (map f qs) h (map-before ps qs g)

        go : (p < p') ⊎ ((p ≡ p') × (before (a ∷ ps) (b ∷ qs) ≡ true)) → before (f p ∷ a ∷ map f ps) (f p' ∷ b ∷ map f qs) ≡ true
        go (inl h) = by_first (f p) (f p') (a ∷ map f ps) (b ∷ map f qs) (mono p p' h)
        go (inr (h, g)) = by_others (f p) (f p') (a ∷ map f ps) (b ∷ map f qs) (ap f h) (rest (first_cases a b ps qs g))

    renumbered-all-pairs : {t : Table} {kind : ℕ} (rs : List (List ℕ)) → ((r : List ℕ) → Memᴰ r rs → Fits t kind r) → ascend rs ≡ true → AllPairs Before (map (renumbered f) rs)
    renumbered-all-pairs rs h e = all-pairs-map (renumbered f) (ascend-all-pairs rs e) (λ r s i j. renumbered-before (h r i) (h s j))

-- ---- the records of both

module _ (n : ℕ) (rs ss : List (List ℕ)) where
  pub both-mem : (x : List ℕ) → Memᴰ x (both_records n rs ss) → Memᴰ x rs ⊎ ((s : List ℕ) × Memᴰ s ss × (renumbered (λ q. n + q) s ≡ x))
  unfolding both_records
  both-mem x d = go (append_cases rs d)
    where
      go : Memᴰ x rs ⊎ Memᴰ x (map (renumbered (λ q. n + q)) ss) → Memᴰ x rs ⊎ ((s : List ℕ) × Memᴰ s ss × (renumbered (λ q. n + q) s ≡ x))
      go (inl k) = inl k
      go (inr k) = inr (Memᴰ.of_map (renumbered (λ q. n + q)) ss k)

  pub both_first : (x : List ℕ) → Memᴰ x rs → Memᴰ x (both_records n rs ss)
  unfolding both_records
  both_first x d = Memᴰ.append_left _ d

  pub both-second : (s : List ℕ) → Memᴰ s ss → Memᴰ (renumbered (λ q. n + q) s) (both_records n rs ss)
  unfolding both_records
  both-second s d = Memᴰ.append_right rs (Memᴰ.map (renumbered (λ q. n + q)) d)

module _ {t u : Table} {kind w : ℕ} {rs ss : List (List ℕ)} (firsts : Section t kind w rs) (seconds : Section u kind w ss) where
  both-before : {r s : List ℕ} → Fits t kind r → Fits u kind s → before r (renumbered (λ q. count t + q) s) ≡ true
  unfolding renumbered
  both-before (fits p a ps l k j i) (fits q b qs l' k' j' i') = by_first p (count t + q) _ _ (omega arith)

  pub both-ascend : ascend rs ≡ true → ascend ss ≡ true → ascend (both_records (count t) rs ss) ≡ true
  unfolding both_records
  both-ascend e f =
      all-pairs-ascend
      (all-pairs-append (ascend-all-pairs rs e) (renumbered-all-pairs (λ q. count t + q) (λ x y h. omega arith) ss seconds.each f)
      (λ r s d k. apart r s d (Memᴰ.of_map (renumbered (λ q. count t + q)) ss k)))
    where
      apart : (r s : List ℕ) → Memᴰ r rs → (x : List ℕ) × Memᴰ x ss × (renumbered (λ q. count t + q) x ≡ s) → before r s ≡ true
      apart r s d (x, k, g) = subst (λ y. before r y ≡ true) g (both-before (firsts.each r d) (seconds.each x k))

  pub both_section : {c : Table} → c.symbols ≡ t.symbols → c.symbols ≡ u.symbols → count c ≡ count t + count u → Section c kind w (both_records (count t) rs ss)
  both_section {c} e f n = record { wide = λ x d. wide x (both-mem (count t) rs ss x d); each = λ x d. each x (both-mem (count t) rs ss x d) }
    where
      wide : (x : List ℕ) → Memᴰ x rs ⊎ ((s : List ℕ) × Memᴰ s ss × (renumbered (λ q. count t + q) s ≡ x)) → length x ≡ w
      wide x (inl d) = firsts.wide x d
      wide x (inr (s, d, g)) = sym (ap length g) ∙ length-renumbered (λ q. count t + q) s ∙ seconds.wide s d

      same : {r : List ℕ} → Fits t kind r → Fits c kind r
      same (fits p a qs l k j i) = fits p a qs (omega arith) (rw e k) (rw e j) (λ q d. omega (arith, i q d))

      each : (x : List ℕ) → Memᴰ x rs ⊎ ((s : List ℕ) × Memᴰ s ss × (renumbered (λ q. count t + q) s ≡ x)) → Fits c kind x
      each x (inl d) = same (firsts.each x d)
      each x (inr (s, d, g)) = subst (Fits c kind) g (renumbered-fits (λ q. count t + q) f (λ q h. omega arith) (seconds.each s d))

-- ---- the number of a pair

module _ (m : ℕ) where
  pub pair-first : (p : ℕ) {q : ℕ} → q < m → first_of m (pair_of m p q) ≡ p
  pair-first p {q} h = mul-add-div_right (omega arith) p q ∙ omega (arith, div-eq_of_lt h)

  pub pair-second : (p : ℕ) {q : ℕ} → q < m → second_of m (pair_of m p q) ≡ q
  pair-second p {q} h = mul-add-mod_self_right p m q ∙ mod-eq_of_lt h

  pub pair-again : (x : ℕ) → pair_of m (first_of m x) (second_of m x) ≡ x
  pair-again x = div-add-mod' x m

  pub pair-below : {n p q : ℕ} → p < n → q < m → pair_of m p q < n * m
  pair-below {n} {p} {q} h k = omega (arith, mul-le-mul_right {m = suc p} {n = n} m h)

-- ---- a pair of records

module _ (m : ℕ) where
  firsts-each : (ps qs : List ℕ) → length ps ≡ length qs → ((q : ℕ) → Memᴰ q qs → q < m) → map (first_of m) (pair_each m ps qs) ≡ ps
  unfolding pair_each
  firsts-each [] qs e h = refl
  firsts-each (p ∷ ps) [] e h = absurd (omega arith)
  firsts-each (p ∷ ps) (q ∷ qs) e h = λ i. pair-first m p (h q (Memᴰ.head refl)) i ∷ firsts-each ps qs (omega arith) (λ x d. h x (Memᴰ.tail d)) i

  seconds-each : (ps qs : List ℕ) → length ps ≡ length qs → ((q : ℕ) → Memᴰ q qs → q < m) → map (second_of m) (pair_each m ps qs) ≡ qs
  unfolding pair_each
  seconds-each [] [] e h = refl
  seconds-each [] (q ∷ qs) e h = absurd (omega arith)
  seconds-each (p ∷ ps) [] e h = refl
  seconds-each (p ∷ ps) (q ∷ qs) e h = λ i. pair-second m p (h q (Memᴰ.head refl)) i ∷ seconds-each ps qs (omega arith) (λ x d. h x (Memᴰ.tail d)) i

  each_again : (xs : List ℕ) → pair_each m (map (first_of m) xs) (map (second_of m) xs) ≡ xs
  unfolding pair_each
  each_again [] = refl
  each_again (x ∷ xs) = λ i. pair-again m x i ∷ each_again xs i

  pair-each-below : (n : ℕ) (ps qs : List ℕ) → ((p : ℕ) → Memᴰ p ps → p < n) → ((q : ℕ) → Memᴰ q qs → q < m) → (x : ℕ) → Memᴰ x (pair_each (m) ps qs) → x < n * m
  unfolding pair_each
  pair-each-below n [] qs h k x d = absurd (not-nil d)
  pair-each-below n (p ∷ ps) [] h k x d = absurd (not-nil d)
  pair-each-below n (p ∷ ps) (q ∷ qs) h k x (Memᴰ.head e) = subst (λ (y : ℕ). y < n * m) (sym e) (pair-below (m) (h p (Memᴰ.head refl)) (k q (Memᴰ.head refl)))
  pair-each-below n (p ∷ ps) (q ∷ qs) h k x (Memᴰ.tail d) = pair-each-below n ps qs (λ y e. h y (Memᴰ.tail e)) (λ y e. k y (Memᴰ.tail e)) x d

  pub record_again : (x : List ℕ) → pair_record m (renumbered (first_of m) x) (renumbered (second_of m) x) ≡ x
  unfolding pair_record renumbered
  record_again [] = refl
  record_again (x ∷ []) = λ i. pair-again m x i ∷ []
  record_again (x ∷ a ∷ xs) = λ i. pair-again m x i ∷ a ∷ each_again xs i

-- a record with other states goes by the same symbol
pub same-symbol : (f g : ℕ → ℕ) (x : List ℕ) → by_same_symbol (renumbered f x) (renumbered g x) ≡ true
unfolding renumbered by_same_symbol
same-symbol f g [] = refl
same-symbol f g (x ∷ []) = refl
same-symbol f g (x ∷ a ∷ xs) = eq-eqb a a refl

module _ {t u : Table} {kind : ℕ} where
  pub record_first : {r s : List ℕ} → Fits t kind r → Fits u kind s → length r ≡ length s → renumbered (first_of (count u)) (pair_record (count u) r s) ≡ r
  unfolding pair_record renumbered
  record_first (fits p a ps l k j i) (fits q b qs l' k' j' i') e = λ x. pair-first (count u) p l' x ∷ a ∷ firsts-each (count u) ps qs (omega arith) i' x

  pub record_second : {r s : List ℕ} → Fits t kind r → Fits u kind s → length r ≡ length s → by_same_symbol r s ≡ true → renumbered (second_of (count u)) (pair_record (count u) r s) ≡ s
  unfolding pair_record renumbered by_same_symbol
  record_second (fits p a ps l k j i) (fits q b qs l' k' j' i') e h = λ x. pair-second (count u) p l' x ∷ eqb-true a b h x ∷ seconds-each (count u) ps qs (omega arith) i' x

  pub record_fits_lem : {c : Table} {r s : List ℕ} → c.symbols ≡ t.symbols → count c ≡ count t * count u → Fits t kind r → Fits u kind s → Fits c kind (pair_record (count u) r s)
  unfolding pair_record
  record_fits_lem e n (fits p a ps l k j i) (fits q b qs l' k' j' i') =
      fits (pair_of (count u) p q) a (pair_each (count u) ps qs) (rw n (pair-below (count u) l l')) (rw e k) (rw e j) (λ x d. rw n (pair-each-below (count u) (count t) ps qs i i' x d))

-- ---- the records of the pairs

module _ (m : ℕ) (rs ss : List (List ℕ)) where
  pub record Pair (x : List ℕ) : Type 0 where
    pub first : List ℕ
    pub second : List ℕ
    pub first_in : Memᴰ first rs
    pub second_in : Memᴰ second ss
    pub together : by_same_symbol first second ≡ true
    pub same : pair_record m first second ≡ x

  pub pairs-mem : (x : List ℕ) → Memᴰ x (pair_records m rs ss) → Pair x
  unfolding pair_records
  pairs-mem x d = go (concat_map-mem (λ r. map (pair_record m r) (filter (by_same_symbol r) ss)) rs x (ascending-mem _ x d))
    where
      found : (r s : List ℕ) → Memᴰ r rs → Memᴰ s ss × (by_same_symbol r s ≡ true) → pair_record m r s ≡ x → Pair x
      found r s i (j, k) e = record { first = r; second = s; first_in = i; second_in = j; together = k; same = e }

      inner : (r : List ℕ) → Memᴰ r rs → (s : List ℕ) × Memᴰ s (filter (by_same_symbol r) ss) × (pair_record m r s ≡ x) → Pair x
      inner r i (s, j, e) = found r s i (filter-mem (by_same_symbol r) ss s j) e

      go : (r : List ℕ) × Memᴰ r rs × Memᴰ x (map (pair_record m r) (filter (by_same_symbol r) ss)) → Pair x
      go (r, i, j) = inner r i (Memᴰ.of_map (pair_record m r) (filter (by_same_symbol r) ss) j)

  pub pairs_of : (r s : List ℕ) → Memᴰ r rs → Memᴰ s ss → by_same_symbol r s ≡ true → Memᴰ (pair_record m r s) (pair_records m rs ss)
  unfolding pair_records
  pairs_of r s i j e = ascending_of _ _ (concat_map_of (λ r. map (pair_record m r) (filter (by_same_symbol r) ss)) rs r _ i (Memᴰ.map (pair_record m r) (filter_of (by_same_symbol r) ss s j e)))

  pub pairs-ascend : ascend (pair_records m rs ss) ≡ true
  unfolding pair_records
  pairs-ascend = ascending_ascends _

module _ {t u : Table} {kind w : ℕ} {rs ss : List (List ℕ)} (firsts : Section t kind w rs) (seconds : Section u kind w ss) where
  alike : {x : List ℕ} (p : Pair (count u) rs ss x) → length p.first ≡ length p.second
  alike p = firsts.wide _ p.first_in ∙ sym (seconds.wide _ p.second_in)

  -- a record is one of the pairs where its firsts are one of the first's and its seconds one of the second's
  pub pairs-exact : (x : List ℕ) → Memᴰ x (pair_records (count u) rs ss) ↔ Memᴰ (renumbered (first_of (count u)) x) rs × Memᴰ (renumbered (second_of (count u)) x) ss
  pairs-exact x = (
    λ d.
        let p = pairs-mem (count u) rs ss x d in
        let f = firsts.each _ p.first_in in
        let g = seconds.each _ p.second_in in (
          Memᴰ.cast (ap (renumbered (first_of (count u))) (sym p.same) ∙ record_first f g (alike p)) p.first_in,
          Memᴰ.cast (ap (renumbered (second_of (count u))) (sym p.same) ∙ record_second f g (alike p) p.together) p.second_in,
        ),
    λ (i, j). Memᴰ.cast (sym (record_again (count u) x)) (pairs_of (count u) rs ss _ _ i j (same-symbol (first_of (count u)) (second_of (count u)) x)),
  )

  pub pairs_section : {c : Table} → c.symbols ≡ t.symbols → count c ≡ count t * count u → Section c kind w (pair_records (count u) rs ss)
  pairs_section {c} e n = record {
    wide = λ x d. sym (length-renumbered (first_of (count u)) x) ∙ firsts.wide _ ((pairs-exact x).0 d).0;
    each = λ x d.
        let p = pairs-mem (count u) rs ss x d in
        subst (Fits c kind) p.same (record_fits_lem e n (firsts.each _ p.first_in) (seconds.each _ p.second_in));
  }
