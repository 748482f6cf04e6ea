-- How many records have each fate: they add up, and those kept are as many as the images. Assumes nothing.
use mathlib.Core.Path.{◌≡◌, refl, sym, ap, ◌∙◌, subst}
use mathlib.Core.Logic.{◌⊎◌, inl, inr}
use mathlib.Core.Bool.{Bool, true, false, ◌&&◌, true≢false}
use mathlib.Core.List.Memᴰ
use mathlib.Core.List.Memᴰ.{append_cases}
use mathlib.Core.List.Memᴰ.{cases_cons}
use mathlib.Core.List.Memᴰ.{eq_of_singleton}
use mathlib.Core.List.Memᴰ.{not-nil}
use mathlib.Core.List.{List, [], ◌∷◌, ◌++◌, map, append_assoc, append-nil, Memᴰ}
use Prim.Native.Nat.{ℕ, suc, ◌+◌, ◌≤◌}
use native.Mathlib.Omega.{arith}
use lib.ListN.{length, length-append}
use lib.Dec.{eqb}
use Rattle.lists.specs.Lists.{filter, same}
use Rattle.lists.proofs.Members.{and-true, and_of, any-true, any_false, any_of, filter-mem, filter_of, same_true, same_of}
use Rattle.lists.proofs.Counts.{filter-append, filter-every}
use Rattle.table_spec.specs.File.{Table}
use Rattle.table_spec.specs.Reading.{ascend}
use Rattle.table_spec.proofs.Order.{ascend_unique}
use Rattle.tops_spec.specs.Tops.{top_words, live, live_returns}
use Rattle.quotient_spec.specs.Quotient.{image, insert, ascending, images, quotient_table}
use Rattle.quotient_spec.proofs.Ascending.{Inserted, first, later, there, inserted, insert-mem, insert-new, insert_old, insert_ascends, ascending_ascends}
use Rattle.quotient_spec.proofs.Image.{images-mem}
use Rattle.records_spec.specs.Fates.{kept_mark, folded_mark, dead_mark, taken, fate, fates_behind, fates_of, record_count, having}

-- ---- one record more among ascending ones

-- a new record makes them one more, and one that is there changes nothing
insert-fresh : (r : List ℕ) (rs : List (List ℕ)) → (Memᴰ r rs → ⊥) → length (insert r rs) ≡ suc (length rs)
unfolding insert
insert-fresh r [] n = refl
insert-fresh r (s ∷ rs) n = go (inserted r s rs) (insert-fresh r rs (λ k. n (Memᴰ.tail k)))
  where
    go : Inserted r s rs → length (insert r rs) ≡ suc (length rs) → length (insert r (s ∷ rs)) ≡ suc (suc (length rs))
    go (first h e) ih = ap length e
    go (later h e) ih = ap length e ∙ ap suc ih
    go (there h e) ih = absurd (n (Memᴰ.head h))

insert-known : (r : List ℕ) (rs : List (List ℕ)) → ascend rs ≡ true → Memᴰ r rs → insert r rs ≡ rs
insert-known r rs a k =
    ascend_unique (insert r rs) rs (insert_ascends r rs a) a
    (λ x j. elim (insert-mem r rs x j) [ inl e ↦ Memᴰ.cast e k | inr l ↦ l ])
    (insert_old r rs)

images-ascend : (m : List ℕ) (rs : List (List ℕ)) → ascend (images m rs) ≡ true
unfolding images
images-ascend m rs = ascending_ascends (map (image m) rs)

-- the image of one record more
images-snoc : (m : List ℕ) (rs : List (List ℕ)) (r : List ℕ) → images m (rs ++ (r ∷ [])) ≡ insert (image m r) (images m rs)
images-snoc m rs r =
    ascend_unique (images m (rs ++ (r ∷ []))) (insert (image m r) (images m rs)) (images-ascend m _) (insert_ascends (image m r) (images m rs) (images-ascend m rs))
    (λ x k. forth x ((images-mem m (rs ++ (r ∷ [])) x).0 k))
    (λ x k. back x (insert-mem (image m r) (images m rs) x k))
  where
    forth : (x : List ℕ) → (s : List ℕ) × Memᴰ s (rs ++ (r ∷ [])) × (image m s ≡ x) → Memᴰ x (insert (image m r) (images m rs))
    forth x (s, k, e) = elim (append_cases rs k) [
      | inl j ↦ insert_old (image m r) (images m rs) x ((images-mem m rs x).1 (s, j, e))
      | inr j ↦ Memᴰ.cast (sym e ∙ ap (image m) (eq_of_singleton j)) (insert-new (image m r) (images m rs))
    ]

    back : (x : List ℕ) → (x ≡ image m r) ⊎ Memᴰ x (images m rs) → Memᴰ x (images m (rs ++ (r ∷ [])))
    back x (inl e) = (images-mem m (rs ++ (r ∷ [])) x).1 (r, Memᴰ.append_right rs (Memᴰ.head refl), sym e)
    back x (inr k) = let o = (images-mem m rs x).0 k in (images-mem m (rs ++ (r ∷ [])) x).1 (o.0, Memᴰ.append_left (r ∷ []) o.1, o.2)

-- ---- a record's fate

module _ (alive : List ℕ → Bool) (m : List ℕ) where
  pub data Fated (earlier : List (List ℕ)) (r : List ℕ) : ℕ → Type 0 where
    dead : alive r ≡ false → Fated earlier r 2
    folded : alive r ≡ true → taken alive m earlier r ≡ true → Fated earlier r 1
    kept : alive r ≡ true → taken alive m earlier r ≡ false → Fated earlier r 0

  pub fated : (earlier : List (List ℕ)) (r : List ℕ) → Fated earlier r (fate alive m earlier r)
  unfolding fate
  fated earlier r = go (alive r) refl
    where
      by : (u : Bool) → taken alive m earlier r ≡ u → alive r ≡ true → Fated earlier r (elim u [ true ↦ 1 | false ↦ 0 ])
      by true p a = folded a p
      by false p a = kept a p

      go : (t : Bool) → alive r ≡ t → Fated earlier r (elim t [ true ↦ elim (taken alive m earlier r) [ true ↦ 1 | false ↦ 0 ] | false ↦ 2 ])
      go true p = by (taken alive m earlier r) refl p
      go false p = dead p

  -- as many fates as records, and each is one of the three
  pub length_fates : (earlier rs : List (List ℕ)) → length (fates_behind alive m earlier rs) ≡ length rs
  unfolding fates_behind
  length_fates earlier [] = refl
  length_fates earlier (r ∷ rs) = ap suc (length_fates (earlier ++ (r ∷ [])) rs)

  pub three : (earlier rs : List (List ℕ)) →
      length rs ≡ having kept_mark (fates_behind alive m earlier rs) + having folded_mark (fates_behind alive m earlier rs) + having dead_mark (fates_behind alive m earlier rs)
  unfolding fates_behind having filter
  three earlier [] = refl
  three earlier (r ∷ rs) = go (fated earlier r) (three (earlier ++ (r ∷ [])) rs)
    where
      go : {x : ℕ} → Fated earlier r x
          → length rs ≡ having 0 (fates_behind alive m (earlier ++ (r ∷ [])) rs) + having 1 (fates_behind alive m (earlier ++ (r ∷ [])) rs) + having 2 (fates_behind alive m (earlier ++ (r ∷ [])) rs)
          → suc (length rs) ≡ having 0 (x ∷ fates_behind alive m (earlier ++ (r ∷ [])) rs) + having 1 (x ∷ fates_behind alive m (earlier ++ (r ∷ [])) rs) + having 2 (x ∷ fates_behind alive m (earlier ++ (r ∷ [])) rs)
      go (dead a) ih = omega arith
      go (folded a p) ih = omega arith
      go (kept a p) ih = omega arith

  -- the images of the records that are alive
  shown : List (List ℕ) → List (List ℕ)
  shown rs = images m (filter alive rs)

  -- a record is folded exactly where its image is among those of the records before it
  taken_shown : (earlier : List (List ℕ)) (r : List ℕ) → taken alive m earlier r ≡ true → Memᴰ (image m r) (shown earlier)
  unfolding taken shown
  taken_shown earlier r p = go (any-true _ earlier p)
    where
      go : (e : List ℕ) × Memᴰ e earlier × ((alive e && same (image m e) (image m r)) ≡ true) → Memᴰ (image m r) (images m (filter alive earlier))
      go (e, k, h) =
          let a = and-true _ _ h in
          (images-mem m (filter alive earlier) (image m r)).1 (e, filter_of alive earlier e k a.0, same_true _ _ a.1)

  shown_taken : (earlier : List (List ℕ)) (r : List ℕ) → Memᴰ (image m r) (shown earlier) → taken alive m earlier r ≡ true
  unfolding taken shown
  shown_taken earlier r k = go ((images-mem m (filter alive earlier) (image m r)).0 k)
    where
      go : (e : List ℕ) × Memᴰ e (filter alive earlier) × (image m e ≡ image m r) → taken alive m earlier r ≡ true
      go (e, j, h) = let l = filter-mem alive earlier e j in any_of _ earlier e l.0 (and_of l.1 (same_of h))

  -- one record more: its image is put among the others, unless it is dead
  dead_on : (earlier : List (List ℕ)) (r : List ℕ) → alive r ≡ false → shown (earlier ++ (r ∷ [])) ≡ shown earlier
  unfolding shown filter
  dead_on earlier r a = ap (images m) (filter-append alive earlier (r ∷ []) ∙ rw (a, filter) (append-nil (filter alive earlier)))

  alive_on : (earlier : List (List ℕ)) (r : List ℕ) → alive r ≡ true → shown (earlier ++ (r ∷ [])) ≡ insert (image m r) (shown earlier)
  unfolding shown filter
  alive_on earlier r a = ap (images m) (filter-append alive earlier (r ∷ []) ∙ rw (a, filter)) ∙ images-snoc m (filter alive earlier) r

  -- "K equals the quotient's record count", of one section after earlier records
  kept-behind : (earlier rs : List (List ℕ)) → having kept_mark (fates_behind alive m earlier rs) + length (shown earlier) ≡ length (shown (earlier ++ rs))
  unfolding fates_behind having filter shown
  kept-behind earlier [] = omega (arith, ap (λ xs. length (shown xs)) (append-nil earlier))
  kept-behind earlier (r ∷ rs) = go (fated earlier r) (kept-behind (earlier ++ (r ∷ [])) rs ∙ ap (λ xs. length (shown xs)) (append_assoc earlier (r ∷ []) rs))
    where
      go : {x : ℕ} → Fated earlier r x
          → having 0 (fates_behind alive m (earlier ++ (r ∷ [])) rs) + length (shown (earlier ++ (r ∷ []))) ≡ length (shown (earlier ++ (r ∷ rs)))
          → having 0 (x ∷ fates_behind alive m (earlier ++ (r ∷ [])) rs) + length (shown earlier) ≡ length (shown (earlier ++ (r ∷ rs)))
      go (dead a) ih = omega (arith, ih, ap length (dead_on earlier r a))
      go (folded a p) ih = omega (arith, ih, ap length (alive_on earlier r a ∙ insert-known (image m r) (shown earlier) (images-ascend m (filter alive earlier)) (taken_shown earlier r p)))
      go (kept a p) ih = omega (arith, ih, ap length (alive_on earlier r a), insert-fresh (image m r) (shown earlier) (λ k. true≢false (sym (shown_taken earlier r k) ∙ p)))

  pub kept_section : (rs : List (List ℕ)) → having kept_mark (fates_behind alive m [] rs) ≡ length (images m (filter alive rs))
  unfolding shown filter images ascending
  kept_section rs = omega (arith, kept-behind [] rs)

-- ---- a whole table

having-append : (k : ℕ) (xs ys : List ℕ) → having k (xs ++ ys) ≡ having k xs + having k ys
unfolding having
having-append k xs ys = ap length (filter-append (eqb k) xs ys) ∙ length-append (filter (eqb k) xs) (filter (eqb k) ys)

module _ (t : Table) (m : List ℕ) where
  moves : List (List ℕ) → List ℕ
  moves rs = fates_behind (λ r. true) m [] rs

  popped : List ℕ
  popped = fates_behind (live (top_words t)) m [] t.returns

  having-all : (k : ℕ) → having k (fates_of t m) ≡ having k (moves t.internals) + having k (moves t.calls) + having k popped
  unfolding fates_of moves popped
  having-all k =
      let e : having k (fates_of t m) ≡ having k (moves t.internals ++ (moves t.calls ++ popped)) = refl in
      omega (arith, e, having-append k (moves t.internals) (moves t.calls ++ popped), having-append k (moves t.calls) popped)

  -- "one byte a record"
  pub one_each : length (fates_of t m) ≡ record_count t
  unfolding fates_of record_count moves popped
  one_each =
      let e : length (fates_of t m) ≡ length (moves t.internals ++ (moves t.calls ++ popped)) = refl in
      omega (
        arith,
        e,
        length-append (moves t.internals) (moves t.calls ++ popped),
        length-append (moves t.calls) popped,
        length_fates (λ r. true) m [] t.internals,
        length_fates (λ r. true) m [] t.calls,
        length_fates (live (top_words t)) m [] t.returns,
      )

  -- "N = K + F + D"
  pub add_up : record_count t ≡ having kept_mark (fates_of t m) + having folded_mark (fates_of t m) + having dead_mark (fates_of t m)
  unfolding record_count moves popped
  add_up =
      omega (
        arith,
        having-all 0,
        having-all 1,
        having-all 2,
        three (λ r. true) m [] t.internals,
        three (λ r. true) m [] t.calls,
        three (live (top_words t)) m [] t.returns,
      )

  -- "K equals the quotient's record count"
  pub kept-quotient : having kept_mark (fates_of t m) ≡ record_count (quotient_table t m)
  unfolding record_count quotient_table live_returns moves popped
  kept-quotient =
      omega (
        arith,
        having-all 0,
        kept_section (λ r. true) m t.internals ∙ ap (λ rs. length (images m rs)) (filter-every t.internals),
        kept_section (λ r. true) m t.calls ∙ ap (λ rs. length (images m rs)) (filter-every t.calls),
        kept_section (live (top_words t)) m t.returns,
      )
