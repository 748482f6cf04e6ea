-- An element of a list has a place there. Assumes nothing.
use mathlib.Core.Path.{◌≡◌, sym}
use mathlib.Core.Logic.{◌⊎◌, inl, inr}
use mathlib.Core.List.Memᴰ.{cases_cons}
use mathlib.Core.List.Memᴰ.{not-nil}
use mathlib.Core.List.{List, [], ◌∷◌, Memᴰ}
use Prim.Native.Nat.{ℕ, zero, suc, ◌<◌}
use native.Mathlib.Omega.{arith}
use lib.ListN.{length, get_or}

pub mem-place : {A : Type 0} (xs : List A) (d y : A) → Memᴰ y xs → (j : ℕ) × (j < length xs) × (get_or xs j d ≡ y)
mem-place [] d y m = absurd (not-nil m)
mem-place (x ∷ xs) d y m = go (cases_cons m) (mem-place xs d y)
  where
    go : (y ≡ x) ⊎ Memᴰ y xs → (Memᴰ y xs → (j : ℕ) × (j < length xs) × (get_or xs j d ≡ y)) → (j : ℕ) × (j < length (x ∷ xs)) × (get_or (x ∷ xs) j d ≡ y)
    go (inl e) ih = (zero, omega arith, sym e)
    go (inr k) ih = let q = ih k in (suc q.0, omega (arith, q.1), q.2)
