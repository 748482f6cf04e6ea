-- What a clause's word tells: that no literal is left, that one is and which, or that two are. The word is that of earlier values; the clause is then looked
-- at under later ones. Assumes nothing.
use mathlib.Core.Path.{◌≡◌, refl, sym, ap, ◌∙◌}
use mathlib.Core.Logic.{◌⊎◌, inl, inr}
use mathlib.Core.Bool.{Bool, true, false, not, or-false, true≢false}
use mathlib.Core.List.{List, [], ◌∷◌, Memᴰ}
use Prim.Native.Nat.{ℕ, ◌+◌, ◌-◌, ◌/◌, ◌%◌, ◌≤◌, ◌<◌}
use native.Mathlib.Omega.{arith}
use borrow.Author.Tests.{not-true, not-false}
use Rattle.lists.specs.Lists.{any, filter}
use Rattle.lists.proofs.Members.{not_so, filter-mem}
use Rattle.cnf.specs.Clauses.{value_of}
use Rattle.cnf.specs.Search.{is_right, is_unset, broken, forcing, quiet, by_unset, seen}
use Rattle.cnf.specs.Closing.{◌⊑◌, holds, waits, SettledOr}
use Rattle.cnf.proofs.Found.{right_is, right-not, unset_is, unset_of}
use Rattle.cnf.proofs.Values.{set_cases}
use Rattle.sat_trail.specs.Trail.{unsetting}
use Rattle.sat_literal.proofs.Literals.{unset-not-right, filter-cons, seen_by_lem, right_tells}
use Rattle.sat_counters.specs.Counters.{weight, is_false, weigh}
use Rattle.sat_counters.proofs.Weighing.{false_is, left_is}

-- ---- the literals that are left

-- the literals of a clause that are not false
abbrev standing : List ℕ → List ℕ → List ℕ
standing v d = filter (λ l. not (is_false v l)) d

-- the weights of literals
abbrev total : List ℕ → ℕ
total [] = 0
total (l ∷ ls) = weight l + total ls

weigh_standing : (v d : List ℕ) → weigh v d ≡ total (standing v d)
unfolding weigh filter
weigh_standing v [] = refl
weigh_standing v (l ∷ d) = go (is_false v l) (weigh_standing v d)
  where
    go :
        (t : Bool) → weigh v d ≡ total (standing v d)
        → elim t as (λ _. ℕ) [ true ↦ weigh v d | false ↦ weight l + weigh v d ] ≡ total (elim (not t) as (λ _. List ℕ) [ true ↦ l ∷ standing v d | false ↦ standing v d ])
    go true e = e
    go false e = ap (λ (n : ℕ). weight l + n) e

standing_mem : (v d : List ℕ) (l : ℕ) → Memᴰ l (standing v d) → Memᴰ l d × (is_false v l ≡ false)
standing_mem v d l m = let r = filter-mem (λ k. not (is_false v k)) d l m in (r.0, not-true (is_false v l) r.1)

-- a test that only kept elements pass asks those alone
module _ (f g : ℕ → Bool) (h : (x : ℕ) → g x ≡ false → f x ≡ false) where
  filter-kept : (xs : List ℕ) → filter f xs ≡ filter f (filter g xs)
  unfolding filter
  filter-kept [] = refl
  filter-kept (x ∷ xs) = go (g x) refl (filter-kept xs)
    where
      go : (t : Bool) → g x ≡ t → filter f xs ≡ filter f (filter g xs) → filter f (x ∷ xs) ≡ filter f (elim t as (λ _. List ℕ) [ true ↦ x ∷ filter g xs | false ↦ filter g xs ])
      go true p r = ap (λ (zs : List ℕ). elim (f x) as (λ _. List ℕ) [ true ↦ x ∷ zs | false ↦ zs ]) r
      go false p r = rw (h x p, filter) r

  any-kept : (xs : List ℕ) → any f xs ≡ any f (filter g xs)
  unfolding filter
  any-kept [] = refl
  any-kept (x ∷ xs) = go (g x) refl (any-kept xs)
    where
      go : (t : Bool) → g x ≡ t → any f xs ≡ any f (filter g xs) → any f (x ∷ xs) ≡ any f (elim t as (λ _. List ℕ) [ true ↦ x ∷ filter g xs | false ↦ filter g xs ])
      go true p r = rw r
      go false p r = rw (h x p, any) r

-- what is seen of a clause of no literal, and of one
none_seen : (w : List ℕ) → broken ≡ seen w []
unfolding filter by_unset
none_seen w = sym (seen_by_lem w [] refl refl)

unset-seen : (w : List ℕ) (m : ℕ) → is_unset w m ≡ true → forcing m ≡ seen w (m ∷ [])
unfolding filter by_unset
unset-seen w m u = sym (seen_by_lem w (m ∷ []) (or-false (is_right w m) ∙ unset-not-right w m u) (filter-cons w m [] u))

false-seen : (w : List ℕ) (m : ℕ) → is_right w m ≡ false → is_unset w m ≡ false → broken ≡ seen w (m ∷ [])
unfolding filter by_unset
false-seen w m r u = sym (seen_by_lem w (m ∷ []) {ks = []} (or-false (is_right w m) ∙ r) (rw (u, filter)))

-- the unset literals of a clause that begins with two
two-unset : (w : List ℕ) (l m : ℕ) (ls : List ℕ) → is_unset w l ≡ true → is_unset w m ≡ true → filter (is_unset w) (l ∷ m ∷ ls) ≡ l ∷ m ∷ filter (is_unset w) ls
two-unset w l m ls p q = filter-cons w l (m ∷ ls) p ∙ ap (λ (zs : List ℕ). l ∷ zs) (filter-cons w m ls q)

-- one is left, and it is the word that says which
one_standing : (v d : List ℕ) {m : ℕ} → 2048 ≤ weigh v d → weigh v d < 4096 → m ≡ weigh v d - 2048 → standing v d ≡ m ∷ []
one_standing v d {m} low high e = go (standing v d) (weigh_standing v d)
  where
    go : (ks : List ℕ) → weigh v d ≡ total ks → ks ≡ m ∷ []
    go [] t = absurd (omega arith)
    go (k ∷ []) t = let same : k ≡ m = omega arith in ap (λ (n : ℕ). n ∷ []) same
    go (k ∷ l ∷ ks) t = absurd (omega arith)

-- it stands in the clause
pub one_left : (v d : List ℕ) {m : ℕ} → 2048 ≤ weigh v d → weigh v d < 4096 → m ≡ weigh v d - 2048 → Memᴰ m d
one_left v d {m} low high e = (standing_mem v d m (rw (one_standing v d low high e) (Memᴰ.head refl))).0

-- ---- later values

unset-not : (w : List ℕ) (l : ℕ) → is_unset w l ≡ false → value_of w (l / 2) ≡ 2 → ⊥
unset-not w l e u = true≢false (sym (unset_of w l u) ∙ e)

-- what was unset, or is as it was
unset-or-same : (w qs : List ℕ) (x : ℕ) → Memᴰ x qs ⊎ (value_of (unsetting w qs) x ≡ value_of w x)
unfolding unsetting
unset-or-same w [] x = inr refl
unset-or-same w (q ∷ qs) x = go (set_cases (unsetting w qs) q 2 x) (unset-or-same w qs x)
  where
    go : ((x ≡ q) × (value_of (unsetting w (q ∷ qs)) x ≡ 2)) ⊎ (value_of (unsetting w (q ∷ qs)) x ≡ value_of (unsetting w qs) x) → Memᴰ x qs ⊎ (value_of (unsetting w qs) x ≡ value_of w x)
        → Memᴰ x (q ∷ qs) ⊎ (value_of (unsetting w (q ∷ qs)) x ≡ value_of w x)
    go (inl p) r = inl (Memᴰ.head p.0)
    go (inr p) (inl m) = inl (Memᴰ.tail m)
    go (inr p) (inr e) = inr (p ∙ e)

module _ {v w : List ℕ} (more : v ⊑ w) where
  -- a literal that is false stays so
  stays_false : (l : ℕ) → is_false v l ≡ true → value_of w (l / 2) ≡ l % 2
  stays_false l e = let is = false_is v l e in more.keeps (l / 2) (omega arith) ∙ is

  not_right : (l : ℕ) → not (is_false v l) ≡ false → is_right w l ≡ false
  not_right l e = not_so (is_right w l) (λ p. omega (arith, right_is w l p, stays_false l (not-false (is_false v l) e)))

  not_unset : (l : ℕ) → not (is_false v l) ≡ false → is_unset w l ≡ false
  not_unset l e = not_so (is_unset w l) (λ p. omega (arith, unset_is w l p, stays_false l (not-false (is_false v l) e)))

  -- the unset literals are left
  unset_standing : (d : List ℕ) {ks : List ℕ} → standing v d ≡ ks → filter (is_unset w) d ≡ filter (is_unset w) ks
  unset_standing d e = filter-kept (is_unset w) (λ l. not (is_false v l)) not_unset d ∙ ap (filter (is_unset w)) e

  -- so the literals that are left tell what the clause says
  seen_standing : (d : List ℕ) {ks : List ℕ} → standing v d ≡ ks → seen w ks ≡ seen w d
  seen_standing d {ks} e =
      let right : any (is_right w) d ≡ any (is_right w) ks = any-kept (is_right w) (λ l. not (is_false v l)) not_right d ∙ ap (any (is_right w)) e in
      seen_by_lem w ks refl refl ∙ sym (seen_by_lem w d right (unset_standing d e))

  module _ (d : List ℕ) where
    -- the clause is broken
    pub none_left : weigh v d < 2048 → broken ≡ seen w d
    none_left low = go (standing v d) refl (weigh_standing v d)
      where
        go : (ks : List ℕ) → standing v d ≡ ks → weigh v d ≡ total ks → broken ≡ seen w d
        go [] e t = none_seen w ∙ seen_standing d e
        go (k ∷ ks) e t = absurd (omega arith)

    -- the literal that is left tells
    module _ {m : ℕ} (low : 2048 ≤ weigh v d) (high : weigh v d < 4096) (e : m ≡ weigh v d - 2048) where
      pub one_right : is_right w m ≡ true → quiet ≡ seen w d
      one_right r = right_tells w d m (one_left v d low high e) r

      one_seen : seen w (m ∷ []) ≡ seen w d
      one_seen = seen_standing d (one_standing v d low high e)

      pub one-unset : is_unset w m ≡ true → forcing m ≡ seen w d
      one-unset u = unset-seen w m u ∙ one_seen

      pub one-false : is_right w m ≡ false → is_unset w m ≡ false → broken ≡ seen w d
      one-false r u = false-seen w m r u ∙ one_seen

    -- the clause is settled, or one of the variables that were set since is in it
    pub two-left : {qs : List ℕ} → ((l : ℕ) → Memᴰ l d → l < 1560) → ((i : ℕ) → value_of w i ≤ 2) → 4096 ≤ weigh v d → unsetting w qs ≡ v → SettledOr w qs d
    two-left {qs} below small high back = go (standing v d) refl (weigh_standing v d)
      where
        -- a literal that is left: right, unset, or false by a variable that was set since
        stands : (l : ℕ) → Memᴰ l d × (is_false v l ≡ false) → SettledOr w qs d ⊎ (is_unset w l ≡ true)
        stands l m = by (is_right w l) (is_unset w l) refl refl (unset-or-same w qs (l / 2))
          where
            by : (s t : Bool) → is_right w l ≡ s → is_unset w l ≡ t → Memᴰ (l / 2) qs ⊎ (value_of (unsetting w qs) (l / 2) ≡ value_of w (l / 2)) → SettledOr w qs d ⊎ (is_unset w l ≡ true)
            by s true p q k = inr q
            by true false p q k = inl (inl (holds l m.0 (right_is w l p)))
            by false false p q (inl k) = inl (inr (record { literal = l; has = m.0; queued = k }))
            by false false p q (inr k) =
                let was : value_of w (l / 2) ≡ value_of v (l / 2) = sym k ∙ ap (λ (u : List ℕ). value_of u (l / 2)) back in
                absurd (omega (arith, small (l / 2), left_is v l m.1, right-not w l p, unset-not w l q))

        both : (l m : ℕ) (ls : List ℕ) → standing v d ≡ l ∷ m ∷ ls → SettledOr w qs d ⊎ (is_unset w l ≡ true) → SettledOr w qs d ⊎ (is_unset w m ≡ true) → SettledOr w qs d
        both l m ls e (inl s) r = s
        both l m ls e (inr p) (inl s) = s
        both l m ls e (inr p) (inr q) =
            inl (waits l m (filter (is_unset w) ls) (unset_standing d e ∙ two-unset w l m ls p q))

        go : (ks : List ℕ) → standing v d ≡ ks → weigh v d ≡ total ks → SettledOr w qs d
        go [] e t = absurd (omega arith)
        go (l ∷ []) e t = absurd (omega (arith, below l (standing_mem v d l (rw e (Memᴰ.head refl))).0))
        go (l ∷ m ∷ ls) e t = both l m ls e (stands l (standing_mem v d l (rw e (Memᴰ.head refl)))) (stands m (standing_mem v d m (rw e (Memᴰ.tail (Memᴰ.head refl)))))
