-- The states past a state. Assumes nothing.
use mathlib.Core.Path.{◌≡◌, sym, ap, ◌∙◌}
use mathlib.Core.List.{[], ◌∷◌, ◌++◌, append-nil, Memᴰ}
use Prim.Native.Nat.{ℕ, zero, suc, ◌+◌, ◌≤◌, ◌<◌}
use native.Mathlib.Omega.{arith}
use native.Mathlib.Decide.{dec_lt}
use lib.ListN.{drop}
use lib.Seq.{drop-append-le}
use lib.Dec.{ltb}
use borrow.Author.Tests.{ltb-true, lt-ltb, le-ltb}
use Rattle.lists.specs.Lists.{filter, upto}
use Rattle.lists.proofs.Members.{filter-mem, filter_of, upto-mem, upto_of, length-upto}
use Rattle.lists.proofs.Upto.{upto_end}
use Rattle.lists.proofs.Counts.{filter-append}
use Rattle.pairs.specs.Triangles.{past}

pub past-mem : (n p q : ℕ) → Memᴰ q (past n p) → (p < q) × (q < n)
unfolding past
past-mem n p q m = let r = filter-mem (ltb p) (upto n) q m in (ltb-true p q r.1, upto-mem n q r.0)

pub past_of : (n p q : ℕ) → p < q → q < n → Memᴰ q (past n p)
unfolding past
past_of n p q l h = filter_of (ltb p) (upto n) q (upto_of n q h) (lt-ltb p q l)

-- as a part of the states
pub past-from : (n p : ℕ) → past n p ≡ drop (p + 1) (upto n)
unfolding past filter upto
past-from zero p = sym (upto_end 0 (p + 1) (omega arith))
past-from (suc n) p = filter-append (ltb p) (upto n) (n ∷ []) ∙ go (dec_lt p n) (past-from n p)
  where
    go : Dec (p < n) → filter (ltb p) (upto n) ≡ drop (p + 1) (upto n) → filter (ltb p) (upto n) ++ filter (ltb p) (n ∷ []) ≡ drop (p + 1) (upto n ++ (n ∷ []))
    go (yes l) e = rw (lt-ltb p n l, filter) (ap (λ xs. xs ++ (n ∷ [])) e ∙ sym (drop-append-le (p + 1) (upto n) (n ∷ []) (omega (arith, length-upto n))))
    go (no l) e =
        let k : n ≤ p = omega arith in
        rw (le-ltb p n k, filter) (append-nil _ ∙ e ∙ upto_end n (p + 1) (omega arith) ∙ sym (upto_end (suc n) (p + 1) (omega arith)))
