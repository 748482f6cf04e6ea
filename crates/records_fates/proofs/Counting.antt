-- How many marks are one, as std counts them. Assumes nothing.
use mathlib.Core.Path.{◌≡◌, refl, sym, ap, ◌∙◌}
use mathlib.Core.Bool.{Bool, true, false, cond}
use mathlib.Core.List.{List, [], ◌∷◌}
use Prim.Native.Nat.{ℕ, suc, ◌+◌}
use native.Mathlib.Omega.{arith}
use native.Mathlib.Decide.{ℕ_discrete}
use lib.Dec.{eqb}
use borrow.Author.Tests.{eq-eqb, ne_eqb}
use Rattle.std.specs.List.{count_by}
use Rattle.std.proofs.lemmas.List.Sums.{sum_by-cons}
use Rattle.lists.specs.Lists.{filter}
use Rattle.records_spec.specs.Fates.{having}

having_yes : (mark x : ℕ) (xs : List ℕ) → x ≡ mark → having mark (x ∷ xs) ≡ suc (having mark xs)
unfolding having filter
having_yes mark x xs e = rw (eq-eqb mark x (sym e), filter)

having_no : (mark x : ℕ) (xs : List ℕ) → (x ≡ mark → ⊥) → having mark (x ∷ xs) ≡ having mark xs
unfolding having filter
having_no mark x xs n = rw (ne_eqb mark x (λ e. n (sym e)), filter)

having_none : (mark : ℕ) → having mark [] ≡ 0
unfolding having filter
having_none mark = refl

pub count_having : (mark : ℕ) (xs : List ℕ) → count_by (λ x. eqb x mark) xs ≡ having mark xs
count_having mark [] = sym (having_none mark)
count_having mark (x ∷ xs) = sum_by-cons (λ y. cond (eqb y mark) 1 0) x xs ∙ go (ℕ_discrete x mark) (count_having mark xs)
  where
    go : Dec (x ≡ mark) → count_by (λ y. eqb y mark) xs ≡ having mark xs → cond (eqb x mark) 1 0 + count_by (λ y. eqb y mark) xs ≡ having mark (x ∷ xs)
    go (yes e) h = rw (eq-eqb x mark e) (omega (arith, h, having_yes mark x xs e))
    go (no n) h = rw (ne_eqb x mark n) (omega (arith, h, having_no mark x xs n))
