-- A queue of variables: each clause is settled, or a variable of it is in the queue. A variable that is set joins the queue; where the clauses of
-- the first variable are seen to, it leaves; where the queue is empty, the values are at rest. Assumes nothing.
use mathlib.Core.Path.{◌≡◌, refl, sym, ap, ◌∙◌, subst}
use mathlib.Core.Logic.{◌⊎◌, inl, inr}
use mathlib.Core.Bool.{Bool, true, false, true≢false}
use mathlib.Core.List.Memᴰ
use mathlib.Core.List.Memᴰ.{cases_cons}
use mathlib.Core.List.Memᴰ.{not-nil}
use mathlib.Core.List.{List, [], ◌∷◌, ◌++◌, Memᴰ}
use Prim.Native.Nat.{ℕ, ◌/◌}
use native.Mathlib.Omega.{arith}
use lib.ListN.{set}
use lib.Dec.{eqb}
use borrow.Author.Tests.{eqb-true, eqb-false}
use Rattle.lists.specs.Lists.{any, filter}
use Rattle.lists.proofs.Members.{any-true, any_false}
use Rattle.cnf.specs.Clauses.{value_of}
use Rattle.cnf.specs.Search.{is_unset, broken, forcing}
use Rattle.cnf.specs.Closing.{Settled, holds, waits, Found, UnitSteps, stay, more, AtRest, Stirred, SettledOr, Waiting}
use Rattle.cnf.proofs.Values.{set_cases}

-- ---- a clause whose variables have the same values

filter_same : {A : Type 0} (f g : A → Bool) (xs : List A) → ((x : A) → Memᴰ x xs → f x ≡ g x) → filter f xs ≡ filter g xs
unfolding filter
filter_same f g [] h = refl
filter_same {A} f g (x ∷ xs) h = go (f x) (g x) (h x (Memᴰ.head refl)) (filter_same f g xs (λ y m. h y (Memᴰ.tail m)))
  where
    go : (s t : Bool) → s ≡ t → filter f xs ≡ filter g xs → ◌≡◌ {A = List A} (elim s [ true ↦ x ∷ filter f xs | false ↦ filter f xs ]) (elim t [ true ↦ x ∷ filter g xs | false ↦ filter g xs ])
    go true true p q = ap (λ (l : List A). x ∷ l) q
    go true false p q = absurd (true≢false p)
    go false true p q = absurd (true≢false (sym p))
    go false false p q = q

pub settled_same : (v w c : List ℕ) → ((m : ℕ) → Memᴰ m c → value_of w (m / 2) ≡ value_of v (m / 2)) → Settled v c → Settled w c
unfolding is_unset
settled_same v w c h (holds l m r) = holds l m (omega (arith, h l m))
settled_same v w c h (waits l m ls e) = waits l m ls (filter_same (is_unset w) (is_unset v) c (λ x k. ap (λ (y : ℕ). eqb y 2) (h x k)) ∙ e)

-- ---- the queue

pub stirred_more : {c qs : List ℕ} (rs : List ℕ) → Stirred c qs → Stirred c (qs ++ rs)
stirred_more rs s = record { literal = s.literal; has = s.has; queued = Memᴰ.append_left rs s.queued }

-- further variables are set, and all of them join the queue
pub settled_or_more : {v w qs c : List ℕ} (rs : List ℕ) → ((i : ℕ) → (Memᴰ i rs → ⊥) → value_of w i ≡ value_of v i) → SettledOr v qs c → SettledOr w (qs ++ rs) c
settled_or_more {v} {w} {qs} {c} rs h (inr s) = inr (stirred_more rs s)
settled_or_more {v} {w} {qs} {c} rs h (inl s) = go (any (λ m. any (eqb (m / 2)) rs) c) refl
  where
    go : (t : Bool) → any (λ m. any (eqb (m / 2)) rs) c ≡ t → SettledOr w (qs ++ rs) c
    go true e =
        let r = any-true (λ m. any (eqb (m / 2)) rs) c e in
        let q = any-true (eqb (r.0 / 2)) rs r.2 in
        inr (record { literal = r.0; has = r.1; queued = Memᴰ.append_right qs (subst (λ (i : ℕ). Memᴰ i rs) (sym (eqb-true (r.0 / 2) q.0 q.2)) q.1) })
    go false e = inl (settled_same v w c (λ m k. h (m / 2) (λ j. eqb-false (m / 2) (m / 2) (any_false (eqb (m / 2)) rs (any_false (λ m. any (eqb (m / 2)) rs) c e m k) (m / 2) j) refl)) s)

pub waiting-more : {cs : List (List ℕ)} {v w qs : List ℕ} (rs : List ℕ) → ((i : ℕ) → (Memᴰ i rs → ⊥) → value_of w i ≡ value_of v i) → Waiting cs v qs → Waiting cs w (qs ++ rs)
waiting-more rs h s = λ c m. settled_or_more rs h (s c m)

pub waiting-set : {cs : List (List ℕ)} {v qs : List ℕ} (x k : ℕ) → Waiting cs v qs → Waiting cs (set v x k) (qs ++ (x ∷ []))
waiting-set {cs} {v} x k s = waiting-more (x ∷ []) (λ i h. go i h (set_cases v x k i)) s
  where
    go : (i : ℕ) → (Memᴰ i (x ∷ []) → ⊥) → ((i ≡ x) × (value_of (set v x k) i ≡ k)) ⊎ (value_of (set v x k) i ≡ value_of v i) → value_of (set v x k) i ≡ value_of v i
    go i h (inl p) = absurd (h (Memᴰ.head p.0))
    go i h (inr p) = p

pub rest-waiting : {cs : List (List ℕ)} {w : List ℕ} (qs : List ℕ) → AtRest cs w → Waiting cs w qs
rest-waiting qs r = λ c m. inl (r c m)

-- the queue is empty
pub waiting-rest : {cs : List (List ℕ)} {w : List ℕ} → Waiting cs w [] → AtRest cs w
waiting-rest {cs} {w} s = λ c m. go c (s c m)
  where
    go : (c : List ℕ) → SettledOr w [] c → Settled w c
    go c (inl p) = p
    go c (inr p) = absurd (not-nil p.queued)

-- the clauses with the first variable are seen to
pub waiting-next :
    {cs : List (List ℕ)} {w : List ℕ} (x : ℕ) (qs : List ℕ) → Waiting cs w (x ∷ qs)
    → ((c : List ℕ) → Memᴰ c cs → (m : ℕ) → Memᴰ m c → m / 2 ≡ x → SettledOr w qs c) → Waiting cs w qs
waiting-next {cs} {w} x qs s h = λ c m. go c m (s c m)
  where
    go : (c : List ℕ) → Memᴰ c cs → SettledOr w (x ∷ qs) c → SettledOr w qs c
    go c m (inl p) = inl p
    go c m (inr p) = pick (cases_cons p.queued)
      where
        pick : (p.literal / 2 ≡ x) ⊎ Memᴰ (p.literal / 2) qs → SettledOr w qs c
        pick (inl e) = h c m p.literal p.has e
        pick (inr q) = inr (record { literal = p.literal; has = p.has; queued = q })

-- ---- some of the clauses

module _ (os cs : List (List ℕ)) (part : (c : List ℕ) → Memᴰ c os → Memᴰ c cs) where
  pub forcing-part : (v : List ℕ) (l : ℕ) → Found v os (forcing l) → Found v cs (forcing l)
  forcing-part v l f = (f.0, part f.0 f.1, f.2)

  pub broken-part : (v : List ℕ) → Found v os broken → Found v cs broken
  broken-part v f = (f.0, part f.0 f.1, f.2)

  -- unit steps by some of the clauses are unit steps
  pub units-part : (v w : List ℕ) → UnitSteps os v w → UnitSteps cs v w
  units-part v w stay = stay
  units-part v w (more {w = t} l s f) = more l (units-part v t s) (forcing-part t l f)
