-- A key has no more targets than there are states, where the records ascend: they ascend too. One law for every width. Assumes nothing.
use mathlib.Core.Path.{◌≡◌, refl, sym}
use mathlib.Core.Logic.{◌⊎◌, inl, inr}
use mathlib.Core.Bool.{Bool, true, false, ◌&&◌, true≢false}
use mathlib.Core.List.Memᴰ
use mathlib.Core.List.{List, [], ◌∷◌, map, Memᴰ}
use Prim.Native.Nat.{ℕ, suc, ◌+◌, ◌≤◌, ◌<◌, zero-le}
use native.Mathlib.Omega.{arith}
use lib.ListN.{length, get_or, take, length-map}
use lib.Dec.{eqb, ltb}
use borrow.Author.Tests.{eqb-true, ltb-true}
use Rattle.lists.specs.Lists.{filter, same}
use Rattle.lists.proofs.Members.{and-true, or-true, and_of, filter-mem}
use Rattle.table_spec.specs.File.{records}
use Rattle.table_spec.specs.Reading.{before, ascend_from, ascend}
use Rattle.table_spec.proofs.Order.{before-transitive, ascend-rest}
use Rattle.table_spec.proofs.Bytes.{records-wide}
use Rattle.table_find.specs.Spans.{starts_with}
use Rattle.clauses_emit.specs.Emit.{Ascending}
use Rattle.clauses_emit.specs.Emit.Ascending.{none, next}

rising-few : (n : ℕ) {m : ℕ} {qs : List ℕ} → Ascending m qs → m ≤ n → ((q : ℕ) → Memᴰ q qs → q < n) → m + length qs ≤ n
rising-few n none h k = omega arith
rising-few n (next l r) h k = let e = rising-few n r (k _ (Memᴰ.head refl)) (λ q m. k q (Memᴰ.tail m)) in omega arith

module _ (key : List ℕ) where
  abbrev target : List ℕ → ℕ
  target r = get_or r (length key) 0

-- two records that start with the key stand as their targets do
targets-ascend : (key r s : List ℕ) → length r ≡ suc (length key) → length s ≡ suc (length key) → starts_with key r ≡ true → starts_with key s ≡ true → before r s ≡ true → target key r < target key s
unfolding starts_with same before
targets-ascend [] (x ∷ []) (y ∷ []) a b c d e = go (or-true (ltb x y) (eqb x y && false) e)
  where
    go : (ltb x y ≡ true) ⊎ ((eqb x y && false) ≡ true) → x < y
    go (inl h) = ltb-true x y h
    go (inr h) = absurd (true≢false (sym (and-true (eqb x y) false h).1))
targets-ascend [] [] s a b c d e = absurd (omega arith)
targets-ascend [] (x ∷ z ∷ r) s a b c d e = absurd (omega arith)
targets-ascend [] (x ∷ []) [] a b c d e = absurd (omega arith)
targets-ascend [] (x ∷ []) (y ∷ z ∷ s) a b c d e = absurd (omega arith)
targets-ascend (k ∷ key) [] s a b c d e = absurd (omega arith)
targets-ascend (k ∷ key) (x ∷ r) [] a b c d e = absurd (omega arith)
targets-ascend (k ∷ key) (x ∷ r) (y ∷ s) a b c d e =
    let p = and-true (eqb k x) (same key (take (length key) r)) c in
    let q = and-true (eqb k y) (same key (take (length key) s)) d in
    go (eqb-true k x p.0) (eqb-true k y q.0) (or-true (ltb x y) (eqb x y && before r s) e) (targets-ascend key r s (omega arith) (omega arith) p.1 q.1)
  where
    go : k ≡ x → k ≡ y → (ltb x y ≡ true) ⊎ ((eqb x y && before r s) ≡ true) → (before r s ≡ true → target key r < target key s) → target key r < target key s
    go f g (inl h) ih = absurd (omega (arith, ltb-true x y h))
    go f g (inr h) ih = ih (and-true (eqb x y) (before r s) h).1

ascend_skip : (r s : List ℕ) (rs : List (List ℕ)) → ascend_from r (s ∷ rs) ≡ true → ascend_from r rs ≡ true
unfolding ascend_from
ascend_skip r s [] e = refl
ascend_skip r s (t ∷ rs) e =
    let p = and-true (before r s) (ascend_from s (t ∷ rs)) e in
    let q = and-true (before s t) (ascend_from t rs) p.1 in
    and_of (before-transitive r s t p.0 q.0) q.1

module _ (key : List ℕ) where
  abbrev Wide : List (List ℕ) → Type 0
  Wide rs = (r : List ℕ) → Memᴰ r rs → length r ≡ suc (length key)

  behind :
      (r : List ℕ) (rs : List (List ℕ)) → length r ≡ suc (length key) → starts_with key r ≡ true → Wide rs → ascend_from r rs ≡ true
      → Ascending (suc (target key r)) (map (target key) (filter (starts_with key) rs))
  unfolding filter ascend_from
  behind r [] w c h e = none
  behind r (s ∷ rs) w c h e =
      let l = h s (Memᴰ.head refl) in
      let p = and-true (before r s) (ascend_from s rs) e in
      go (starts_with key s) refl (targets-ascend key r s w l c) (λ d. behind s rs l d (λ t m. h t (Memᴰ.tail m)) p.1) (behind r rs w c (λ t m. h t (Memᴰ.tail m)) (ascend_skip r s rs e)) p.0
    where
      go :
          (t : Bool) → starts_with key s ≡ t → (starts_with key s ≡ true → before r s ≡ true → target key r < target key s)
          → (starts_with key s ≡ true → Ascending (suc (target key s)) (map (target key) (filter (starts_with key) rs)))
          → Ascending (suc (target key r)) (map (target key) (filter (starts_with key) rs)) → before r s ≡ true → Ascending (suc (target key r)) (map (target key) (filter (starts_with key) (s ∷ rs)))
      go true d lt up skip b = rw (d, filter) (next (lt d b) (up d))
      go false d lt up skip b = rw (d, filter) skip

  -- they ascend
  pub rising : (rs : List (List ℕ)) → Wide rs → ascend rs ≡ true → Ascending 0 (map (target key) (filter (starts_with key) rs))
  unfolding filter ascend
  rising [] h e = none
  rising (r ∷ rs) h e = go (starts_with key r) refl (λ c. behind r rs (h r (Memᴰ.head refl)) c (λ t m. h t (Memᴰ.tail m)) e) (rising rs (λ t m. h t (Memᴰ.tail m)) (ascend-rest r rs e))
    where
      go :
          (t : Bool) → starts_with key r ≡ t → (starts_with key r ≡ true → Ascending (suc (target key r)) (map (target key) (filter (starts_with key) rs)))
          → Ascending 0 (map (target key) (filter (starts_with key) rs)) → Ascending 0 (map (target key) (filter (starts_with key) (r ∷ rs)))
      go true d up skip = rw (d, filter) (next zero-le (up d))
      go false d up skip = rw (d, filter) skip

  pub few-targets :
      (n : ℕ) (s : List ℕ) → ascend (records (suc (length key)) s) ≡ true
      → ((r : List ℕ) → Memᴰ r (records (suc (length key)) s) → get_or r (length key) 0 < n)
      → length (filter (starts_with key) (records (suc (length key)) s)) ≤ n
  few-targets n s a h =
      let rs = records (suc (length key)) s in
      let kept = filter (starts_with key) rs in
      let below : (q : ℕ) → Memᴰ q (map (target key) kept) → q < n = λ q m. under (Memᴰ.of_map (target key) kept m) in
      omega (arith, rising-few n (rising rs (records-wide (suc (length key)) s) a) zero-le below, length-map kept (target key))
    where
      under : {q : ℕ} → (r : List ℕ) × Memᴰ r (filter (starts_with key) (records (suc (length key)) s)) × (target key r ≡ q) → q < n
      under r = let l = h r.0 (filter-mem (starts_with key) (records (suc (length key)) s) r.0 r.1).0 in let e = r.2 in omega arith
