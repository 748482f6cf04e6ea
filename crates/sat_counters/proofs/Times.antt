-- How often a number stands in a list. Assumes nothing.
use mathlib.Core.Path.{◌≡◌, refl, ap, ◌∙◌}
use mathlib.Core.Logic.{◌≢◌}
use mathlib.Core.Bool.{true}
use mathlib.Core.List.Memᴰ.{not-nil}
use mathlib.Core.List.{List, [], ◌∷◌, ◌++◌, Memᴰ}
use Prim.Native.Nat.{ℕ, suc, ◌+◌, ◌*◌, ◌<◌}
use native.Mathlib.Nat.{suc-mul}
use native.Mathlib.Omega.{arith}
use lib.ListN.{length, length-append}
use lib.Dec.{eqb}
use borrow.Author.Tests.{eq-eqb, ne_eqb, eqb-true}
use Rattle.lists.specs.Lists.{filter}
use Rattle.lists.proofs.Members.{filter-mem, filter_of}
use Rattle.lists.proofs.Counts.{filter-append}
use Rattle.sat_counters.specs.Counters.{times}

pub times-nil : (c : ℕ) → times c [] ≡ 0
unfolding filter
times-nil c = refl

pub times-here : (c x : ℕ) (xs : List ℕ) → c ≡ x → times c (x ∷ xs) ≡ suc (times c xs)
unfolding filter
times-here c x xs e = rw (eq-eqb c x e, filter)

pub times-past : (c x : ℕ) (xs : List ℕ) → c ≢ x → times c (x ∷ xs) ≡ times c xs
unfolding filter
times-past c x xs n = rw (ne_eqb c x n, filter)

pub times-last : (c x : ℕ) (xs : List ℕ) → times c (xs ++ (x ∷ [])) ≡ times c xs + times c (x ∷ [])
times-last c x xs = ap length (filter-append (eqb c) xs (x ∷ [])) ∙ length-append (filter (eqb c) xs) (filter (eqb c) (x ∷ []))

-- it is not there
pub times_never : (c : ℕ) (xs : List ℕ) → ((x : ℕ) → Memᴰ x xs → c ≢ x) → times c xs ≡ 0
times_never c [] h = times-nil c
times_never c (x ∷ xs) h = times-past c x xs (h x (Memᴰ.head refl)) ∙ times_never c xs (λ y m. h y (Memᴰ.tail m))

some-there : {c : ℕ} (xs : List ℕ) → Memᴰ c xs → 0 < length xs
some-there [] m = absurd (not-nil m)
some-there (x ∷ xs) m = omega arith

-- it is
pub times-some : (c : ℕ) (xs : List ℕ) → Memᴰ c xs → 0 < times c xs
times-some c xs m = some-there (filter (eqb c) xs) (filter_of (eqb c) xs c m (eq-eqb c c refl))

pub times_in : (x : ℕ) (xs : List ℕ) → 0 < times x xs → Memᴰ x xs
times_in x xs h = go (filter (eqb x) xs) h (filter-mem (eqb x) xs)
  where
    go : (ys : List ℕ) → 0 < length ys → ((y : ℕ) → Memᴰ y ys → Memᴰ y xs × (eqb x y ≡ true)) → Memᴰ x xs
    go [] h k = absurd (omega (arith, h))
    go (y ∷ ys) h k = let q = k y (Memᴰ.head refl) in rw (eqb-true x y q.1) q.0

-- how often, with what each time weighs
pub weight-here : (c x : ℕ) (xs : List ℕ) (w : ℕ) → c ≡ x → times c (x ∷ xs) * w ≡ times c xs * w + w
weight-here c x xs w e = ap (λ (n : ℕ). n * w) (times-here c x xs e) ∙ suc-mul (times c xs) w

pub weight-past : (c x : ℕ) (xs : List ℕ) (w : ℕ) → c ≢ x → times c (x ∷ xs) * w ≡ times c xs * w
weight-past c x xs w n = ap (λ (n : ℕ). n * w) (times-past c x xs n)
