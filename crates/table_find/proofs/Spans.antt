-- The targets of a key are those of the records in its span, where the records ascend. One law for every width. Assumes nothing.
use mathlib.Core.Path.{◌≡◌, refl, sym, ap, ◌∙◌}
use mathlib.Core.Logic.{◌⊎◌, inl, inr}
use mathlib.Core.Bool.{Bool, true, false, ◌&&◌, true≢false}
use mathlib.Core.List.{List, [], ◌∷◌, map, Memᴰ}
use Prim.Native.Nat.{ℕ, ◌≤◌}
use native.Mathlib.Omega.{arith}
use lib.ListN.{length, get_or, take, drop}
use lib.Dec.{eqb, ltb}
use borrow.Author.Tests.{eqb-true, eq-eqb, ltb-true, le-ltb, ltb-false}
use Rattle.lists.specs.Lists.{filter, same}
use Rattle.lists.proofs.Members.{and-true, and_of, or-true, or-false}
use Rattle.table_spec.specs.Reading.{before, ascend_from, ascend}
use Rattle.table_spec.specs.Language.{targets}
use Rattle.table_spec.proofs.Order.{before-transitive, ascend-behind, ascend-rest}
use Rattle.table_find.specs.Spans.{first_at, starts_with, leading}

-- what starts with the key does not stand before it
starts-not-before : (key r : List ℕ) → starts_with key r ≡ true → before r key ≡ false
unfolding starts_with same before
starts-not-before [] [] e = refl
starts-not-before [] (x ∷ r) e = refl
starts-not-before (k ∷ key) [] e = absurd (true≢false (sym e))
starts-not-before (k ∷ key) (x ∷ r) e =
    let p = and-true (eqb k x) (same key (take (length key) r)) e in
    let q : x ≡ k = sym (eqb-true k x p.0) in
    rw (le-ltb x k (omega arith), eq-eqb x k q, starts-not-before key r p.1)

-- a record between the key and one that starts with it starts with it
between-starts : (key r s : List ℕ) → before r key ≡ false → before r s ≡ true → starts_with key s ≡ true → starts_with key r ≡ true
unfolding starts_with same before
between-starts [] r s a b c = refl
between-starts (k ∷ key) [] s a b c = absurd (true≢false a)
between-starts (k ∷ key) (x ∷ r) [] a b c = absurd (true≢false (sym c))
between-starts (k ∷ key) (x ∷ r) (y ∷ s) a b c =
    let p = and-true (eqb k y) (same key (take (length key) s)) c in
    let e : k ≡ y = eqb-true k y p.0 in
    let f = or-false (ltb x k) (eqb x k && before r key) a in
    go e p.1 (ltb-false x k f.0) f.1 (or-true (ltb x y) (eqb x y && before r s) b) (between-starts key r s)
  where
    go : k ≡ y → same key (take (length key) s) ≡ true → k ≤ x → (eqb x k && before r key) ≡ false → (ltb x y ≡ true) ⊎ ((eqb x y && before r s) ≡ true)
        → (before r key ≡ false → before r s ≡ true → same key (take (length key) s) ≡ true → same key (take (length key) r) ≡ true) → (eqb k x && same key (take (length key) r)) ≡ true
    go e c l f (inl g) ih = absurd (omega (arith, ltb-true x y g))
    go e c l f (inr g) ih =
        let p = and-true (eqb x y) (before r s) g in
        let d : x ≡ k = eqb-true x y p.0 ∙ sym e in
        let n : before r key ≡ false = rw (eq-eqb x k d) at f in
        and_of (eq-eqb k x (sym d)) (ih n p.1 c)

module _ (key : List ℕ) where
  -- the target of a record that starts with the key
  abbrev target : List ℕ → ℕ
  target r = get_or r (length key) 0

  filter-all : (rs : List (List ℕ)) → ((r : List ℕ) → Memᴰ r rs → starts_with key r ≡ false) → filter (starts_with key) rs ≡ []
  unfolding filter
  filter-all [] h = refl
  filter-all (r ∷ rs) h = rw (h r (Memᴰ.head refl), filter) (filter-all rs (λ s m. h s (Memᴰ.tail m)))

  none-later : (r : List ℕ) (rs : List (List ℕ)) → ascend_from r rs ≡ true → before r key ≡ false → starts_with key r ≡ false → (s : List ℕ) → Memᴰ s rs → starts_with key s ≡ false
  none-later r rs a b e s m = go (starts_with key s) refl
    where
      go : (t : Bool) → starts_with key s ≡ t → starts_with key s ≡ false
      go true f = absurd (true≢false (sym (between-starts key r s b (ascend-behind r rs a s m) f) ∙ e))
      go false f = f

  not-before : (r s : List ℕ) → before r s ≡ true → before r key ≡ false → before s key ≡ false
  not-before r s a b = go (before s key) refl
    where
      go : (t : Bool) → before s key ≡ t → before s key ≡ false
      go true f = absurd (true≢false (sym (before-transitive r s key a f) ∙ b))
      go false f = f

  -- from the first record on that does not stand before the key
  from_first : (r : List ℕ) (rs : List (List ℕ)) → ascend_from r rs ≡ true → before r key ≡ false → filter (starts_with key) (r ∷ rs) ≡ take (leading (r ∷ rs) key) (r ∷ rs)
  unfolding filter leading ascend_from
  from_first r [] a b = go (starts_with key r) refl
    where
      go : (t : Bool) → starts_with key r ≡ t → filter (starts_with key) (r ∷ []) ≡ take (leading (r ∷ []) key) (r ∷ [])
      go true e = rw (e, filter, leading)
      go false e = rw (e, filter, leading)
  from_first r (s ∷ rs) a b = go (starts_with key r) refl (from_first s rs (and-true (before r s) (ascend_from s rs) a).1 (not-before r s (and-true (before r s) (ascend_from s rs) a).0 b))
    where
      go :
          (t : Bool) → starts_with key r ≡ t → filter (starts_with key) (s ∷ rs) ≡ take (leading (s ∷ rs) key) (s ∷ rs)
          → filter (starts_with key) (r ∷ s ∷ rs) ≡ take (leading (r ∷ s ∷ rs) key) (r ∷ s ∷ rs)
      go true e ih = rw (e, filter, leading) (ap (λ xs. r ∷ xs) ih)
      go false e ih = rw (e, filter, leading) (filter-all (s ∷ rs) (none-later r (s ∷ rs) a b e))

  -- the records that start with the key are those of its span
  pub kept-span : (rs : List (List ℕ)) → ascend rs ≡ true → filter (starts_with key) rs ≡ take (leading (drop (first_at rs key) rs) key) (drop (first_at rs key) rs)
  unfolding filter first_at ascend leading
  kept-span [] a = refl
  kept-span (r ∷ rs) a = go (before r key) refl (kept-span rs (ascend-rest r rs a))
    where
      go : (t : Bool) → before r key ≡ t → filter (starts_with key) rs ≡ take (leading (drop (first_at rs key) rs) key) (drop (first_at rs key) rs)
          → filter (starts_with key) (r ∷ rs) ≡ take (leading (drop (first_at (r ∷ rs) key) (r ∷ rs)) key) (drop (first_at (r ∷ rs) key) (r ∷ rs))
      go true e ih = rw (e, first_at) (past (starts_with key r) refl ih)
        where
          past :
              (t : Bool) → starts_with key r ≡ t → filter (starts_with key) rs ≡ take (leading (drop (first_at rs key) rs) key) (drop (first_at rs key) rs)
              → filter (starts_with key) (r ∷ rs) ≡ take (leading (drop (first_at rs key) rs) key) (drop (first_at rs key) rs)
          past true f ih = absurd (true≢false (sym e ∙ starts-not-before key r f))
          past false f ih = rw (f, filter) ih
      go false e ih = rw (e, first_at) (from_first r rs a e)

  pub targets-span : (rs : List (List ℕ)) → ascend rs ≡ true → targets rs key ≡ map target (take (leading (drop (first_at rs key) rs) key) (drop (first_at rs key) rs))
  unfolding targets starts_with
  targets-span rs a = ap (map target) (kept-span rs a)
