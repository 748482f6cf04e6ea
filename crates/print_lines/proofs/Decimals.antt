-- The fewest decimal digits that hold a number are as many as its text has. Assumes nothing.
use mathlib.Core.Path.{◌≡◌, refl, sym, ap, subst}
use mathlib.Core.Bool.{Bool, true, false}
use Prim.Native.Nat.{ℕ, zero, suc, ◌-◌, ◌/◌, ◌^◌, ◌≤◌, ◌<◌}
use native.Mathlib.Nat.{pow-suc, pow-le-pow_right, div-lt_iff_lt-mul, le-div_iff_mul-le}
use native.Mathlib.Omega.{arith}
use native.Mathlib.Decide.{dec_lt}
use lib.Dec.{ltb}
use borrow.Author.Tests.{ltb-true, ltb-false}
use Rattle.io.specs.Digits.{last_digits, IsDigitCount}
use Rattle.print_spec.specs.Lines.{places_of, decimal_text}

places : (f k n : ℕ) → k ≤ suc f → IsDigitCount 10 1 n k → k ≡ places_of f n
unfolding places_of
places zero k n h (a, b, c) = omega arith
places (suc f) zero n h (a, b, c) = absurd (omega arith)
places (suc f) (suc zero) n h (a, b, c) = go (ltb n 10) refl
  where
    go : (t : Bool) → ltb n 10 ≡ t → ◌≡◌ {A = ℕ} 1 (elim t [ true ↦ 1 | false ↦ suc (places_of f (n / 10)) ])
    go true p = refl
    go false p = absurd (omega (arith, ltb-false n 10 p, b))
places (suc f) (suc (suc j)) n h (a, b, c) = go (ltb n 10) refl (places f (suc j) (n / 10) (omega arith) rest)
  where
    least : 10 ^ suc j ≤ n
    least = let e : suc (suc j) - 1 ≡ suc j = omega arith in subst (λ (i : ℕ). 10 ^ i ≤ n) e (c (omega arith))

    rest : IsDigitCount 10 1 (n / 10) (suc j)
    rest = (
      omega arith,
      (div-lt_iff_lt-mul {k = 10} {x = n} {y = 10 ^ suc j} (omega arith)).1 (rw (pow-suc 10 (suc j)) at b),
      λ l. let e : suc j - 1 ≡ j = omega arith in subst (λ (i : ℕ). 10 ^ i ≤ n / 10) (sym e) ((le-div_iff_mul-le {k = 10} {x = 10 ^ j} {y = n} (omega arith)).1 (rw (pow-suc 10 j) at least)),
    )

    go : (t : Bool) → ltb n 10 ≡ t → suc j ≡ places_of f (n / 10) → ◌≡◌ {A = ℕ} (suc (suc j)) (elim t [ true ↦ 1 | false ↦ suc (places_of f (n / 10)) ])
    go true p ih =
        let l : 10 ^ 1 ≤ 10 ^ suc j = pow-le-pow_right {n = 10} (omega arith) {i = 1} {j = suc j} (omega arith) in
        absurd (omega (arith, ltb-true n 10 p, least, l))
    go false p ih = ap suc ih

-- a number of 64 bits has at most 20
pub few_digits : (n k : ℕ) → n < 2 ^ 64 → IsDigitCount 10 1 n k → k ≤ 20
few_digits n k h (a, b, c) = go (dec_lt 20 k)
  where
    go : Dec (20 < k) → k ≤ 20
    go (yes l) =
        let m : 10 ^ 20 ≤ 10 ^ (k - 1) = pow-le-pow_right {n = 10} (omega arith) {i = 20} {j = k - 1} (omega arith) in
        absurd (omega (arith, c (omega arith), m))
    go (no l) = omega arith

-- the digits that the library writes are the number's text
pub decimal_text_lem : (n k : ℕ) → k ≤ 20 → IsDigitCount 10 1 n k → last_digits 10 k n ≡ decimal_text n
unfolding decimal_text
decimal_text_lem n k h f = ap (λ i. last_digits 10 i n) (places 19 k n h f)
