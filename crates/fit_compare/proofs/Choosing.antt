-- 38 by neighbours in file order. Assumes nothing.
use mathlib.Core.Path.{◌≡◌, refl, sym, ap, ◌∙◌, subst}
use mathlib.Core.Logic.{◌⊎◌, inl, inr, ⊎_elim}
use mathlib.Core.Bool.{Bool, true, false, ◌&&◌, ◌||◌, not, true≢false}
use mathlib.Core.List.{List, [], ◌∷◌, ◌++◌, Memᴰ}
use Prim.Native.Nat.{ℕ, zero, suc, ◌+◌, ◌-◌, ◌%◌, ◌<◌, ◌≤◌}
use native.Mathlib.Omega.{arith}
use lib.ListN.{length, get_or, take, drop, drop_of_length-le, length-drop, take-append-drop}
use lib.Seq.{take_all, length-take-le}
use borrow.Author.Tests.{eq-eqb, ne_eqb}
use Rattle.lists.specs.Lists.{all, filter, same}
use Rattle.lists.proofs.Members.{and-true, and_of, gives, gives_of, not_so, all_true, all_of, same_true, same_of, one_on}
use Rattle.table_spec.specs.File.{records}
use Rattle.table_spec.specs.Reading.{is_initial, before, ascend_from, ascend}
use Rattle.table_spec.proofs.Order.{first_cases, by_first, by_others, before_irreflexive, before-transitive, ascend-rest}
use Rattle.table_spec.proofs.Chunks.{chunk_on, chunk_end}
use Rattle.quotient_spec.specs.Quotient.{bit_of}
use Rattle.fit_spec.specs.Fit.{one_target}

-- ---- the order of the first w bytes

take-before : (w : ℕ) (r s : List ℕ) → before r s ≡ true → (take w r ≡ take w s) ⊎ (before (take w r) (take w s) ≡ true)
unfolding before
take-before zero r s h = inl refl
take-before (suc w) [] [] h = inl refl
take-before (suc w) [] (y ∷ ys) h = inr refl
take-before (suc w) (x ∷ xs) [] h = absurd (true≢false (sym h))
take-before (suc w) (x ∷ xs) (y ∷ ys) h = go (first_cases x y xs ys h) (take-before w xs ys)
  where
    go :
        (x < y) ⊎ ((x ≡ y) × (before xs ys ≡ true)) → (before xs ys ≡ true → (take w xs ≡ take w ys) ⊎ (before (take w xs) (take w ys) ≡ true))
        → (x ∷ take w xs ≡ y ∷ take w ys) ⊎ (before (x ∷ take w xs) (y ∷ take w ys) ≡ true)
    go (inl l) r = inr (by_first x y (take w xs) (take w ys) l)
    go (inr (e, k)) r = ⊎_elim (λ f. inl (λ i. e i ∷ f i)) (λ f. inr (by_others x y (take w xs) (take w ys) e f)) (r k)

-- ---- neighbours

-- no two neighbours agree on their first w bytes
unfoldable pub neighbours : ℕ → List (List ℕ) → Bool
neighbours w [] = true
neighbours w (r ∷ []) = true
neighbours w (r ∷ s ∷ rs) = not (same (take w r) (take w s)) && neighbours w (s ∷ rs)

not-true : (b : Bool) → not b ≡ true → b ≡ true → ⊥
not-true true e f = true≢false (sym e)
not-true false e f = true≢false (sym f)

module _ (w : ℕ) where
  -- records that agree on their first w bytes are equal
  Distinct : List (List ℕ) → Type 0
  Distinct rs = (r s : List ℕ) → Memᴰ r rs → Memᴰ s rs → take w r ≡ take w s → r ≡ s

  of_distinct : (rs : List (List ℕ)) → Distinct rs → one_target w rs ≡ true
  unfolding one_target Distinct
  of_distinct rs h = all_of _ rs (λ r m. all_of _ rs (λ s k. gives_of _ _ (λ e. same_of (h r s m k (same_true _ _ e)))))

  distinct_of : (rs : List (List ℕ)) → one_target w rs ≡ true → Distinct rs
  unfolding one_target Distinct
  distinct_of rs h r s m k e = same_true _ _ (gives _ _ (all_true (λ s. not (same (take w r) (take w s)) || same r s) rs (all_true (λ r. all (λ s. not (same (take w r) (take w s)) || same r s) rs) rs h r m) s k) (same_of e))

  -- the first stands before all that follow, by the first w bytes
  keys_rise : (r : List ℕ) (rs : List (List ℕ)) → ascend_from r rs ≡ true → neighbours w (r ∷ rs) ≡ true → (s : List ℕ) → Memᴰ s rs → before (take w r) (take w s) ≡ true
  unfolding neighbours ascend_from
  keys_rise r [] a n s m = elim m [ ]
  keys_rise r (x ∷ xs) a n s m =
      let p = and-true _ _ n in
      let q = and-true _ _ a in
      go (take-before w r x q.0) (not-true _ p.0) m (keys_rise x xs q.1 p.1 s)
    where
      go :
          (take w r ≡ take w x) ⊎ (before (take w r) (take w x) ≡ true) → (same (take w r) (take w x) ≡ true → ⊥) → Memᴰ s (x ∷ xs)
          → (Memᴰ s xs → before (take w x) (take w s) ≡ true) → before (take w r) (take w s) ≡ true
      go (inl e) n m f = absurd (n (same_of e))
      go (inr l) n (Memᴰ.head e) f = subst (λ (y : List ℕ). before (take w r) (take w y) ≡ true) (sym e) l
      go (inr l) n (Memᴰ.tail m) f = before-transitive (take w r) (take w x) (take w s) l (f m)

  neighbours_distinct : (rs : List (List ℕ)) → ascend rs ≡ true → neighbours w rs ≡ true → Distinct rs
  unfolding Distinct ascend neighbours
  neighbours_distinct [] a n r s m k e = elim m [ ]
  neighbours_distinct (x ∷ xs) a n r s m k e = go m k (λ l. neighbours_distinct xs (ascend-rest x xs a) l r s)
    where
      apart : (y z : List ℕ) → Memᴰ z xs → y ≡ x → take w y ≡ take w z → ⊥
      apart y z m d e = before_irreflexive (take w x) (subst (λ (v : List ℕ). before (take w x) v ≡ true) (sym (ap (take w) (sym d) ∙ e)) (keys_rise x xs a n z m))

      later : (xs : List (List ℕ)) → neighbours w (x ∷ xs) ≡ true → neighbours w xs ≡ true
      later [] n = refl
      later (y ∷ ys) n = (and-true (not (same (take w x) (take w y))) (neighbours w (y ∷ ys)) n).1

      go : Memᴰ r (x ∷ xs) → Memᴰ s (x ∷ xs) → (neighbours w xs ≡ true → Memᴰ r xs → Memᴰ s xs → take w r ≡ take w s → r ≡ s) → r ≡ s
      go (Memᴰ.head d) (Memᴰ.head f) h = d ∙ sym f
      go (Memᴰ.head d) (Memᴰ.tail k) h = absurd (apart r s k d e)
      go (Memᴰ.tail m) (Memᴰ.head f) h = absurd (apart s r m f (sym e))
      go (Memᴰ.tail m) (Memᴰ.tail k) h = h (later xs n) m k e

  distinct_neighbours : (rs : List (List ℕ)) → ascend rs ≡ true → Distinct rs → neighbours w rs ≡ true
  unfolding Distinct ascend ascend_from neighbours
  distinct_neighbours [] a d = refl
  distinct_neighbours (r ∷ []) a d = refl
  distinct_neighbours (r ∷ s ∷ rs) a d =
      and_of
      (ap not (not_so (same (take w r) (take w s)) (λ e. before_irreflexive s (subst (λ (v : List ℕ). before v s ≡ true) (d r s (Memᴰ.head refl) (Memᴰ.tail (Memᴰ.head refl)) (same_true _ _ e)) (and-true (before r s) (ascend_from s rs) a).0))))
      (distinct_neighbours (s ∷ rs) (and-true (before r s) (ascend_from s rs) a).1 (λ x y m k. d x y (Memᴰ.tail m) (Memᴰ.tail k)))

  pub neighbours_suffice : (rs : List (List ℕ)) → ascend rs ≡ true → neighbours w rs ≡ one_target w rs
  neighbours_suffice rs a = go (neighbours w rs) refl (one_target w rs) refl
    where
      go : (x : Bool) → neighbours w rs ≡ x → (y : Bool) → one_target w rs ≡ y → x ≡ y
      go true e true f = refl
      go false e false f = refl
      go true e false f = absurd (true≢false (sym (of_distinct rs (neighbours_distinct rs a e)) ∙ f))
      go false e true f = absurd (true≢false (sym (distinct_neighbours rs a (distinct_of rs f)) ∙ e))

-- ---- the walk: the last record passed, and those that are left

pub record Neighbouring (w : ℕ) (s last rest : List ℕ) : Type 0 where
  pub long : length last ≡ w
  pub meets : neighbours (w - 1) (records w s) ≡ neighbours (w - 1) (last ∷ records w rest)

module _ {w : ℕ} (s : List ℕ) (p : 3 ≤ w) where
  pub neighbouring : {rest : List ℕ} → w ≤ length s → rest ≡ take (length s - w) (drop w s) → Neighbouring w s (take w s) rest
  neighbouring {rest} h e =
      let l : length (take w s) ≡ w = length-take-le w s h in
      let d : rest ≡ drop w s = e ∙ take_all (length s - w) (drop w s) (omega (arith, length-drop w s)) in
      record { long = l; meets = ap (neighbours (w - 1)) (chunk_on s (take w s) rest (omega arith) (sym (take-append-drop w s) ∙ ap (λ r. take w s ++ r) (sym d)) l) }

  pub no_neighbour : length s < w → true ≡ one_target (w - 1) (records w s)
  unfolding one_target
  no_neighbour h = sym (ap (one_target (w - 1)) (chunk_end s h))

module _ {w : ℕ} {s last rest : List ℕ} (p : 3 ≤ w) (a : ascend (records w s) ≡ true) (i : Neighbouring w s last rest) where
  pub neighbours_done : length rest < w → true ≡ one_target (w - 1) (records w s)
  unfolding neighbours
  neighbours_done h = sym (sym (neighbours_suffice (w - 1) (records w s) a) ∙ i.meets ∙ ap (λ rs. neighbours (w - 1) (last ∷ rs)) (chunk_end rest h))

  module _ (x after : List ℕ) (d : rest ≡ x ++ after) (h : length x ≡ w) where
    next_on : (b : Bool) → same (take (w - 1) last) (take (w - 1) x) ≡ b → neighbours (w - 1) (records w s) ≡ (not b && neighbours (w - 1) (x ∷ records w after))
    unfolding neighbours
    next_on b e = i.meets ∙ ap (λ rs. neighbours (w - 1) (last ∷ rs)) (chunk_on rest x after (omega arith) d h) ∙ ap (λ t. not t && neighbours (w - 1) (x ∷ records w after)) e

    pub neighbours_meet : take (w - 1) last ≡ take (w - 1) x → false ≡ one_target (w - 1) (records w s)
    neighbours_meet e = sym (next_on true (same_of e)) ∙ neighbours_suffice (w - 1) (records w s) a

    pub neighbours_on : (take (w - 1) last ≡ take (w - 1) x → ⊥) → Neighbouring w s x after
    neighbours_on n = record { long = h; meets = next_on false (not_so _ (λ e. n (same_true _ _ e))) }

-- ---- the initial states: those passed are counted

pub record Counting (s : List ℕ) (count q : ℕ) : Type 0 where
  pub inside : q ≤ length s
  pub few : count ≤ q
  pub meets : length (filter is_initial s) ≡ count + length (filter is_initial (drop q s))

pub counting : (s : List ℕ) → Counting s 0 0
counting s = record { inside = omega arith; few = omega arith; meets = omega arith }

module _ {s : List ℕ} {count q : ℕ} (i : Counting s count q) where
  module _ (l : q < length s) where
    kept : (b : Bool) → is_initial (get_or s q 0) ≡ b → length (filter is_initial (drop q s)) ≡ bit_of b + length (filter is_initial (drop (q + 1) s))
    unfolding filter bit_of
    kept true e = ap (λ xs. length (filter is_initial xs)) (one_on s q l) ∙ rw (e, filter) (omega arith)
    kept false e = ap (λ xs. length (filter is_initial xs)) (one_on s q l) ∙ rw (e, filter) (omega arith)

    pub counted : get_or s q 0 % 2 ≡ 1 → Counting s (count + 1) (q + 1)
    unfolding is_initial bit_of
    counted e = record { inside = omega arith; few = omega (arith, i); meets = omega (arith, i.meets, kept true (eq-eqb _ _ e)) }

    pub passed_over : (get_or s q 0 % 2 ≡ 1 → ⊥) → Counting s count (q + 1)
    unfolding is_initial bit_of
    passed_over n = record { inside = omega arith; few = omega (arith, i); meets = omega (arith, i.meets, kept false (ne_eqb _ _ n)) }

  pub all-counted : length s ≤ q → count ≡ length (filter is_initial s)
  unfolding filter
  all-counted h = sym (i.meets ∙ ap (λ (xs : List ℕ). count + length (filter is_initial xs)) (drop_of_length-le s {i = q} h) ∙ omega arith)
