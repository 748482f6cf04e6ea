-- What the functions of src/ are stated with: records matched, over the parts of a table. Assumes nothing.
use Rattle.std.specs.Prelude.{Bool, true, false, List, ℕ, ◌≤◌, length, get_or, eqb, ltb}
use Rattle.lists.specs.Lists.{all, upto}
use Rattle.limits.specs.Limits.{state_most}
use Rattle.tops_spec.specs.Tops.{live}
use Rattle.check_spec.specs.Check.{move_matched, return_matched}
use Rattle.table_index.specs.Index as index

-- a move, and a return where it is live under the top words
unfoldable pub kept : List ℕ → List ℕ → Bool
kept f r = elim (ltb (length r) 4) [ true ↦ true | false ↦ live f r ]

-- (iv) for one return and a state: every stack state
abbrev pub return_met : List ℕ → List (List ℕ) → ℕ → List ℕ → List ℕ → ℕ → Bool
return_met f rs n m r q = all (λ u. return_matched f rs m (get_or r 0 0) (get_or r 1 0) (get_or r 2 0) (get_or r 3 0) q u) (upto n)

-- for one record of w bytes and a state: (ii) and (iii) of a move, (iv) of a return
unfoldable pub record_matched : ℕ → List ℕ → List (List ℕ) → ℕ → List ℕ → List ℕ → ℕ → Bool
record_matched w f rs n m r q = elim (eqb w 3) [
  | true ↦ move_matched rs m (get_or r 0 0) (get_or r 1 0) (get_or r 2 0) q
  | false ↦ return_met f rs n m r q
]

-- .. every state, and every record
abbrev pub record_met : ℕ → List ℕ → List (List ℕ) → ℕ → List ℕ → List ℕ → Bool
record_met w f rs n m r = all (record_matched w f rs n m r) (upto n)

abbrev pub records_matched : ℕ → List ℕ → List (List ℕ) → ℕ → List ℕ → Bool
records_matched w f rs n m = all (record_met w f rs n m) rs

-- a section's records as they are matched: moves or returns, in order, of symbols and states that are there, and few states
pub record Lent (w : ℕ) (section : List ℕ) (n : ℕ) : Type 0 where
  pub moves : 3 ≤ w
  pub returns : w ≤ 4
  pub lent : index.Lent w n section
  pub few : n ≤ state_most
