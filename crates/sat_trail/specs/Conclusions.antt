-- Group 2 beside the clauses of a list, and conclusions from pairs that are set, as unit steps of that group. Assumes nothing.
use Rattle.std.specs.Prelude.{◌≡◌, ◌≢◌, Bool, false, List, ◌++◌, ℕ, ◌+◌, ◌-◌, ◌*◌, ◌≤◌, ◌<◌}
use Rattle.lists.specs.Bits.{Bit}
use Rattle.cnf.specs.Clauses.{value_of, clauses_in}
use Rattle.pairs.specs.Pairs.{variable_of}
use Rattle.pairs.specs.Triangles.{triangles}
use Rattle.sat_trail.specs.Trail.{Worked}

-- the clauses of a list without group 2, and that group
abbrev pub with_triangles : List ℕ → ℕ → List (List ℕ)
with_triangles ws n = clauses_in ws ++ triangles n

-- the literal that says k of x
abbrev pub saying : ℕ → ℕ → ℕ
saying x k = 2 * x + (1 - k)

-- what is known of p and q (x), and of p and s (y), gives k of q and s: with p = q the same, with p ≠ q and p = s that they are apart
pub data Concludes (v : List ℕ) (x y k : ℕ) : Type 0 where
  alike : value_of v x ≡ 1 → value_of v y ≡ k → k ≢ 2 → Concludes v x y k
  parted : value_of v x ≡ 0 → value_of v y ≡ 1 → k ≡ 0 → Concludes v x y k

-- of each state in the word it follows from q and some p that its pair with q is x
pub record Spreads (n : ℕ) (v : List ℕ) (q todo x : ℕ) : Type 0 where
  pub p : ℕ
  pub p_in : p < n
  pub q_in : q < n
  pub different : p ≢ q
  pub small : x ≤ 1
  pub each : (s : ℕ) → Bit todo s → (s < n) × (s ≢ p) × (s ≢ q) × Concludes v (variable_of p q) (variable_of p s) x

-- and so it is
pub record Spread (n : ℕ) (v t : List ℕ) (count q todo x : ℕ) (w s : List ℕ) (isBroken : Bool) (more : ℕ) : Type 0 where
  pub worked : Worked (triangles n) v t count w s isBroken more
  pub done : isBroken ≡ false → (r : ℕ) → Bit todo r → value_of w (variable_of q r) ≡ x

-- of both words, with q and with p
pub record SpreadBoth (n : ℕ) (v t : List ℕ) (count p q todo back x : ℕ) (w s : List ℕ) (isBroken : Bool) (more : ℕ) : Type 0 where
  pub worked : Worked (triangles n) v t count w s isBroken more
  pub done_q : isBroken ≡ false → (r : ℕ) → Bit todo r → value_of w (variable_of q r) ≡ x
  pub done-p : isBroken ≡ false → (r : ℕ) → Bit back r → value_of w (variable_of p r) ≡ x
