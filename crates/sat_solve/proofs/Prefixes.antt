-- The values that the search begins with, none of them set, and those that come back. Assumes nothing.
use mathlib.Core.Path.{◌≡◌, refl, ap, ◌∙◌}
use mathlib.Core.Bool.{true}
use mathlib.Core.List.{List, ◌∷◌, ◌++◌}
use Prim.Native.Nat.{ℕ, zero, suc, ◌≤◌}
use native.Mathlib.Omega.{arith}
use lib.ListN.{length, take, drop, replicate, length-append, length-replicate}
use lib.Seq.{take_at}
use Rattle.cnf.specs.Clauses.{clauses_in, whole}
use Rattle.cnf.specs.Closing.{Formed}
use Rattle.sat_decide.specs.Turns.{none_set, Fresh}

take-replicate : (n m : ℕ) → n ≤ m → take {A = ℕ} n (replicate m 2) ≡ replicate n 2
take-replicate zero m h = refl
take-replicate (suc n) zero h = absurd (omega arith)
take-replicate (suc n) (suc m) h = ap (λ (l : List ℕ). 2 ∷ l) (take-replicate n m (omega arith))

module _ (n : ℕ) (h : n ≤ 780) {s : List ℕ} (z : s ≡ none_set) where
  pub prefix_is : take n s ≡ replicate n 2
  unfolding none_set
  prefix_is = ap (take n) z ∙ take-replicate n 780 h

  pub prefix_length : length (take n s) ≡ n
  prefix_length = ap length prefix_is ∙ length-replicate {A = ℕ} n 2

  pub fresh : {ws : List ℕ} → whole ws ≡ true → Formed (clauses_in ws) n → Fresh ws 0 (take n s)
  fresh w f = record {
    all_there = w;
    formed = rw prefix_length f;
    none-set = rw prefix_length prefix_is;
    most = rw prefix_length h;
    few = omega arith;
    size = λ k. absurd (omega arith);
  }

  -- the values that come back, in front of the rest of the array
  module _ (v : List ℕ) (e : length v ≡ length (take n s)) where
    long : length v ≡ n
    long = e ∙ prefix_length

    pub prefix_room : n ≤ length (v ++ drop n s)
    prefix_room = omega (arith, long, length-append v (drop n s))

    pub prefix_values : take n (v ++ drop n s) ≡ v
    prefix_values = take_at v (drop n s) n long

    pub prefix_size : length (take n (v ++ drop n s)) ≡ n
    prefix_size = ap length prefix_values ∙ long
