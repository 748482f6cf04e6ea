-- The numbers of pairs. Assumes nothing.
use mathlib.Core.Path.{◌≡◌, ◌∙◌}
use Prim.Native.Nat.{ℕ, suc, ◌+◌, ◌*◌, ◌/◌, ◌%◌, ◌<◌, ◌≤◌}
use native.Mathlib.Omega.{arith}
use native.Mathlib.Nat.{mul-add-div_right, mul-add-mod_self_right, div-add-mod', mod-lt, mod-eq_of_lt, div-eq_of_lt, mul-le-mul_right, suc-mul, div-lt_iff_lt-mul}

module _ (n : ℕ) where
  pub pair-first : (p : ℕ) {b : ℕ} → b < suc n → (p * suc n + b) / suc n ≡ p
  pair-first p {b} h = mul-add-div_right {m = suc n} (omega arith) p b ∙ omega (arith, div-eq_of_lt h)

  pub pair-second : (p : ℕ) {b : ℕ} → b < suc n → (p * suc n + b) % suc n ≡ b
  pair-second p {b} h = mul-add-mod_self_right p (suc n) b ∙ mod-eq_of_lt h

  pub pair-whole : (u : ℕ) → u / suc n * suc n + u % suc n ≡ u
  pair-whole u = div-add-mod' u (suc n)

  pub second_below : (u : ℕ) → u % suc n < suc n
  second_below u = mod-lt u (omega arith)

  pub pair-below : {k p b : ℕ} → p < k → b < suc n → p * suc n + b < k * suc n
  pair-below {k} {p} {b} h l = let m : suc p * suc n ≤ k * suc n = mul-le-mul_right (suc n) h in omega (arith, suc-mul p (suc n), m)

  pub first_below : {k u : ℕ} → u < k * suc n → u / suc n < k
  first_below {k} {u} h = (div-lt_iff_lt-mul {k = suc n} {x = u} {y = k} (omega arith)).1 h
