-- The table's rule: a test that antt computes over the whole table, and what it says of each entry. Assumes nothing.
use mathlib.Core.Path.{◌≡◌, sym, ◌∙◌}
use mathlib.Core.Bool.{Bool, true, ◌&&◌}
use mathlib.Core.List.{List}
use Prim.Native.Nat.{ℕ, ◌≤◌, ◌<◌}
use native.Mathlib.Omega.{arith}
use lib.ListN.{length}
use lib.Dec.{eqb, ltb}
use borrow.Author.Tests.{eqb-true, ltb-true}
use Rattle.lists.specs.Lists.{all, upto}
use Rattle.lists.proofs.Members.{and-true, all_true, upto_of}
use Rattle.limits.specs.Limits.{state_most}
use Rattle.pairs.specs.declared.Pair.{Pair}
use Rattle.pairs.specs.Pairs.{pairs, variable_of, pair_of}
use Rattle.pairs.specs.Entries.{pair_in, PairFor, PairTable}
use Rattle.pairs.proofs.Pairs.{pairs_mono, variable-pair, pair-ordered, variable_injective}

-- the test of the pair at a place
unfoldable pub is_for : ℕ → Pair → Bool
is_for v x = ltb x.low x.high && eqb (variable_of x.low x.high) v

-- the test of a whole table
unfoldable pub is_table : List ℕ → Bool
is_table t = eqb (length t) (pairs state_most) && all (λ v. is_for v (pair_in t v)) (upto (pairs state_most))

pub table_of : (t : List ℕ) → is_table t ≡ true → PairTable t
unfolding is_table is_for
table_of t e =
    let a = and-true _ _ e in
    record { long = eqb-true _ _ a.0; each = λ v l. for v (pair_in t v) (all_true (λ v. is_for v (pair_in t v)) (upto (pairs state_most)) a.1 v (upto_of _ v l)) }
  where
    for : (v : ℕ) (x : Pair) → is_for v x ≡ true → PairFor v x
    for v x e = let a = and-true _ _ e in record { ordered = ltb-true _ _ a.0; placed = eqb-true _ _ a.1 }

-- ---- the table goes back as the formula does

pair_for : (v : ℕ) (x : Pair) → PairFor v x → x ≡ pair_of v
pair_for v x h =
    let e = variable_injective x.low x.high (pair_of v).low (pair_of v).high h.ordered (pair-ordered v) (h.placed ∙ sym (variable-pair v)) in
    λ i. record { low = e.0 i; high = e.1 i }

-- what is looked up for a variable of n states
pub pair_found : {t : List ℕ} {x : Pair} (n v : ℕ) → n ≤ state_most → PairTable t → v < pairs n → x ≡ pair_in t v → x ≡ pair_of v
pair_found {t} n v f h l e = e ∙ pair_for v (pair_in t v) (h.each v (omega (arith, pairs_mono n state_most f)))
