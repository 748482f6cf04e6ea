-- A walk over the numbers below n: what is still to come of `all` and `any`, and a law for each way through a turn. Assumes nothing.
use mathlib.Core.Path.{◌≡◌, refl, sym, ap, ◌∙◌}
use mathlib.Core.Bool.{Bool, true, false}
use mathlib.Core.List.{List, [], ◌∷◌}
use Prim.Native.Nat.{ℕ, ◌+◌, ◌<◌, ◌≤◌}
use native.Mathlib.Omega.{arith}
use lib.ListN.{drop, drop_of_length-le}
use Rattle.lists.specs.Lists.{any, all, upto}
use Rattle.lists.proofs.Members.{one_on, length-upto, get_d_upto}

-- the answer over all the numbers is the answer over those from i on
pub record Counting (f : List ℕ → Bool) (n i : ℕ) : Type 0 where
  pub inside : i ≤ n
  pub meets : f (upto n) ≡ f (drop i (upto n))

pub counting : (f : List ℕ → Bool) (n : ℕ) → Counting f n 0
counting f n = record { inside = omega arith; meets = refl }

pub upto_on : (n i : ℕ) → i < n → drop i (upto n) ≡ i ∷ drop (i + 1) (upto n)
upto_on n i h = one_on (upto n) i (omega (arith, length-upto n)) ∙ ap (λ x. x ∷ drop (i + 1) (upto n)) (get_d_upto n i 0 h)

pub upto_end : (n i : ℕ) → n ≤ i → drop i (upto n) ≡ []
upto_end n i h = drop_of_length-le (upto n) {i = i} (omega (arith, length-upto n))

module _ (g : ℕ → Bool) {n i : ℕ} where
  pub all-passed : Counting (all g) n i → i < n → g i ≡ true → Counting (all g) n (i + 1)
  all-passed w h e = record { inside = omega arith; meets = w.meets ∙ rw (upto_on n i h, e) }

  pub all_failed : Counting (all g) n i → i < n → g i ≡ false → false ≡ all g (upto n)
  all_failed w h e = sym (w.meets ∙ rw (upto_on n i h, e))

  pub all_done : Counting (all g) n i → n ≤ i → true ≡ all g (upto n)
  all_done w h = sym (w.meets ∙ rw (upto_end n i h))

  pub any-passed : Counting (any g) n i → i < n → g i ≡ false → Counting (any g) n (i + 1)
  any-passed w h e = record { inside = omega arith; meets = w.meets ∙ rw (upto_on n i h, e) }

  pub any_found : Counting (any g) n i → i < n → g i ≡ true → true ≡ any g (upto n)
  any_found w h e = sym (w.meets ∙ rw (upto_on n i h, e))

  pub any-done : Counting (any g) n i → n ≤ i → false ≡ any g (upto n)
  any-done w h = sym (w.meets ∙ rw (upto_end n i h))
