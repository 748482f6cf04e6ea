-- What a scan of the clauses has found, as facts on the values: a broken clause, a clause that forces a literal, or that every clause is
-- settled; and what the lowest unset variable is. Assumes nothing.
use mathlib.Core.Path.{◌≡◌, refl, sym, ap, ◌∙◌}
use mathlib.Core.Logic.{◌⊎◌, inl, inr, ◌≢◌}
use mathlib.Core.Bool.{Bool, true, false, true≢false}
use mathlib.Core.List.Memᴰ.{cases_cons}
use mathlib.Core.List.Memᴰ.{eq_of_singleton}
use mathlib.Core.List.Memᴰ.{not-nil}
use mathlib.Core.List.{List, [], ◌∷◌, Memᴰ}
use mathlib.Core.Option.{Option, none, some}
use Prim.Native.Nat.{ℕ, zero, suc, ◌+◌, ◌<◌}
use native.Mathlib.Omega.{arith}
use lib.ListN.{length}
use lib.Dec.{eqb}
use borrow.Author.Tests.{eqb-true, eqb-false, eq-eqb, ne_eqb}
use Rattle.lists.specs.Lists.{any, filter}
use Rattle.lists.proofs.Members.{any-true, any_false, filter-mem, filter_of}
use Rattle.cnf.specs.Clauses.{value_of, Right}
use Rattle.cnf.specs.Search.{is_right, is_unset, Seen, broken, forcing, quiet, by_unset, seen, both, scan, lowest_unset}
use Rattle.cnf.specs.Closing.{Unset, Wrong, Broken, Forces, Settled, holds, waits, Found}

-- ---- the tests on a literal

pub right_is : (v : List ℕ) (l : ℕ) → is_right v l ≡ true → Right v l
unfolding is_right
right_is v l e = eqb-true _ _ e

pub right_of : (v : List ℕ) (l : ℕ) → Right v l → is_right v l ≡ true
unfolding is_right
right_of v l e = eq-eqb _ _ e

pub right-not : (v : List ℕ) (l : ℕ) → is_right v l ≡ false → Right v l → ⊥
unfolding is_right
right-not v l e = eqb-false _ _ e

pub unset_is : (v : List ℕ) (l : ℕ) → is_unset v l ≡ true → Unset v l
unfolding is_unset
unset_is v l e = eqb-true _ _ e

pub unset_of : (v : List ℕ) (l : ℕ) → Unset v l → is_unset v l ≡ true
unfolding is_unset
unset_of v l e = eq-eqb _ _ e

-- ---- one clause

-- the meaning of what is seen of a clause
abbrev pub Means : List ℕ → List ℕ → Seen → Type 0
Means v c broken = Broken v c
Means v c (forcing l) = Forces v c l
Means v c quiet = Settled v c

by_unset_means : (v c ks : List ℕ) → any (is_right v) c ≡ false → filter (is_unset v) c ≡ ks → Means v c (by_unset ks)
unfolding by_unset
by_unset_means v c [] e k = λ l m. record { is_set = λ o. not-nil (rw k at (filter_of (is_unset v) c l m (unset_of v l o))); is_not = right-not v l (any_false (is_right v) c e l m) }
by_unset_means v c (l ∷ []) e k =
    let here = filter-mem (is_unset v) c l (rw k (Memᴰ.head refl)) in
    record { has = here.0; free = unset_is v l here.1; rest = λ m h. other m h (is_unset v m) refl; single = rw k refl }
  where
    other : (m : ℕ) → Memᴰ m c → (t : Bool) → is_unset v m ≡ t → (m ≡ l) ⊎ Wrong v m
    other m h true p = inl (eq_of_singleton (rw k at (filter_of (is_unset v) c m h p)))
    other m h false p = inr (record { is_set = λ o. true≢false (sym (unset_of v m o) ∙ p); is_not = right-not v m (any_false (is_right v) c e m h) })
by_unset_means v c (l ∷ m ∷ ls) e k = waits l m ls k

pub seen_means : (v c : List ℕ) → Means v c (seen v c)
unfolding seen
seen_means v c = go (any (is_right v) c) refl
  where
    go : (t : Bool) → any (is_right v) c ≡ t → Means v c (elim t [ true ↦ quiet | false ↦ by_unset (filter (is_unset v) c) ])
    go true e = let r = any-true (is_right v) c e in holds r.0 r.1 (right_is v r.0 r.2)
    go false e = by_unset_means v c (filter (is_unset v) c) e refl

-- ---- the clauses

both_found : (v c : List ℕ) (cs : List (List ℕ)) (s t : Seen) → Means v c s → Found v cs t → Found v (c ∷ cs) (both s t)
unfolding both
both_found v c cs broken t h r = (c, Memᴰ.head refl, h)
both_found v c cs (forcing l) broken h r = (r.0, Memᴰ.tail r.1, r.2)
both_found v c cs (forcing l) (forcing m) h r = (c, Memᴰ.head refl, h)
both_found v c cs (forcing l) quiet h r = (c, Memᴰ.head refl, h)
both_found v c cs quiet broken h r = (r.0, Memᴰ.tail r.1, r.2)
both_found v c cs quiet (forcing m) h r = (r.0, Memᴰ.tail r.1, r.2)
both_found v c cs quiet quiet h r = λ d m. pick d (cases_cons m)
  where
    pick : (d : List ℕ) → (d ≡ c) ⊎ Memᴰ d cs → Settled v d
    pick d (inl e) = rw e h
    pick d (inr m) = r d m

pub scan-found : (v : List ℕ) (cs : List (List ℕ)) → Found v cs (scan v cs)
unfolding scan
scan-found v [] = λ c m. absurd (not-nil m)
scan-found v (c ∷ cs) = both_found v c cs (seen v c) (scan v cs) (seen_means v c) (scan-found v cs)

-- ---- the lowest unset variable

-- nothing is unset, or x is and nothing before it; v's first variable has number i
abbrev pub LowestUnset : List ℕ → ℕ → Option ℕ → Type 0
LowestUnset v i none = (j : ℕ) → j < length v → value_of v j ≢ 2
LowestUnset v i (some x) = (j : ℕ) × (x ≡ i + j) × (j < length v) × (value_of v j ≡ 2) × ((h : ℕ) → h < j → value_of v h ≢ 2)

pub lowest_is : (v : List ℕ) (i : ℕ) → LowestUnset v i (lowest_unset v i)
unfolding lowest_unset
lowest_is [] i = λ j h. absurd (omega arith)
lowest_is (x ∷ xs) i = go (eqb x 2) refl (lowest_is xs (suc i))
  where
    further : (o : Option ℕ) → x ≢ 2 → LowestUnset xs (suc i) o → LowestUnset (x ∷ xs) i o
    further none p r = λ j. elim j as (λ j. j < length (x ∷ xs) → value_of (x ∷ xs) j ≢ 2) [ zero ↦ λ h. p | suc j ↦ λ h. r j (omega arith) ]
    further (some y) p r =
        (suc r.0, omega arith, omega arith, r.3, λ j. elim j as (λ j. j < suc r.0 → value_of (x ∷ xs) j ≢ 2) [ zero ↦ λ h. p | suc j ↦ λ h. r.4 j (omega arith) ])

    go : (t : Bool) → eqb x 2 ≡ t → LowestUnset xs (suc i) (lowest_unset xs (suc i)) → LowestUnset (x ∷ xs) i (elim t [ true ↦ some i | false ↦ lowest_unset xs (suc i) ])
    go true p r = (0, omega arith, omega arith, eqb-true _ _ p, λ h l. absurd (omega arith))
    go false p r = further (lowest_unset xs (suc i)) (eqb-false _ _ p) r

-- the other way round
pub lowest-some : (v : List ℕ) (i j : ℕ) → j < length v → value_of v j ≡ 2 → ((h : ℕ) → h < j → value_of v h ≢ 2) → lowest_unset v i ≡ some (i + j)
unfolding lowest_unset
lowest-some [] i j l e s = absurd (omega arith)
lowest-some (x ∷ xs) i zero l e s = let z : i ≡ i + 0 = omega arith in rw (eq-eqb x 2 e, lowest_unset) (ap some z)
lowest-some (x ∷ xs) i (suc j) l e s =
    let z : suc i + j ≡ i + suc j = omega arith in
    rw (ne_eqb x 2 (s 0 (omega arith)), lowest_unset) (lowest-some xs (suc i) j (omega arith) e (λ h k. s (suc h) (omega arith)) ∙ ap some z)

pub lowest-none : (v : List ℕ) (i : ℕ) → ((h : ℕ) → h < length v → value_of v h ≢ 2) → lowest_unset v i ≡ none
unfolding lowest_unset
lowest-none [] i s = refl
lowest-none (x ∷ xs) i s = rw (ne_eqb x 2 (s 0 (omega arith)), lowest_unset) (lowest-none xs (suc i) (λ h k. s (suc h) (omega arith)))
