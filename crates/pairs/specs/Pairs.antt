-- Pairs of states as variables (document 01, "Pairs and clauses"). Assumes nothing.
use Rattle.std.specs.Prelude.{true, false, ℕ, zero, suc, ◌+◌, ◌-◌, ◌*◌, ◌/◌, ltb}
use Rattle.pairs.specs.declared.Pair.{Pair}

-- how many pairs n states have: the variables of n states
unfoldable pub pairs : ℕ → ℕ
pairs n = n * (n - 1) / 2

-- "States p < q have variable q(q-1)/2 + p": of two different states in any order
unfoldable pub variable_of : ℕ → ℕ → ℕ
variable_of p q = elim (ltb p q) [ true ↦ pairs q + p | false ↦ pairs p + q ]

-- the pair whose variable is the pairs of q and r more, at most k states on
unfoldable pub pair_from : ℕ → ℕ → ℕ → Pair
pair_from zero q r = record { low = r; high = q }
pair_from (suc k) q r = elim (ltb r q) [ true ↦ record { low = r; high = q } | false ↦ pair_from k (suc q) (r - q) ]

-- "The way back, from variable to p and q, is worked out from that formula."
unfoldable pub pair_of : ℕ → Pair
pair_of v = pair_from v 1 v
