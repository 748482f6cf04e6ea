-- What closing the values is stated with: literals that are wrong, clauses that are broken, that force a literal or are settled, unit steps, a queue of
-- variables, and what a closure has to find. No operation's answer is defined by these; inner contracts of the code and laws are stated with
-- them. Assumes nothing.
use Rattle.std.specs.Prelude.{◌≡◌, ◌⊎◌, ◌≢◌, true, false, ℕ, suc, ◌+◌, ◌-◌, ◌/◌, ◌%◌, ◌≤◌, ◌<◌, length, set, eqb}
use mathlib.Core.List.{List, [], ◌∷◌, Memᴰ}
use Rattle.lists.specs.Lists.{filter}
use Rattle.cnf.specs.Clauses.{value_of, Right}
use Rattle.cnf.specs.Search.{is_unset, Seen, broken, forcing, quiet}

-- every literal's variable is below n
pub record Formed (cs : List (List ℕ)) (n : ℕ) : Type 0 where
  pub below : (c : List ℕ) → Memᴰ c cs → (l : ℕ) → Memᴰ l c → l / 2 < n

-- n values, each 0, 1 or 2
pub record Values (n : ℕ) (v : List ℕ) : Type 0 where
  pub long : length v ≡ n
  pub small : (i : ℕ) → value_of v i ≤ 2

-- the literal's variable is unset
abbrev pub Unset : List ℕ → ℕ → Type 0
Unset v l = value_of v (l / 2) ≡ 2

-- the literal's variable is set, and not as the literal says
pub record Wrong (v : List ℕ) (l : ℕ) : Type 0 where
  pub is_set : value_of v (l / 2) ≢ 2
  pub is_not : value_of v (l / 2) + l % 2 ≢ 1

-- w has every value that v has
pub record ◌⊑◌ (v w : List ℕ) : Type 0 where
  pub keeps : (i : ℕ) → value_of v i ≢ 2 → value_of w i ≡ value_of v i

infix 20 ◌⊑◌
-- how many values are unset
unfoldable pub unset_count : List ℕ → ℕ
unset_count [] = 0
unset_count (x ∷ xs) = elim (eqb x 2) [ true ↦ suc (unset_count xs) | false ↦ unset_count xs ]

-- ---- one clause

-- every literal is false
abbrev pub Broken : List ℕ → List ℕ → Type 0
Broken v c = (l : ℕ) → Memᴰ l c → Wrong v l

-- l is the one unset literal, and every other is false
pub record Forces (v : List ℕ) (c : List ℕ) (l : ℕ) : Type 0 where
  pub has : Memᴰ l c
  pub free : Unset v l
  pub rest : (m : ℕ) → Memᴰ m c → (m ≡ l) ⊎ Wrong v m
  pub single : length (filter (is_unset v) c) ≡ 1

-- a literal is right, or two are unset
pub data Settled (v : List ℕ) (c : List ℕ) : Type 0 where
  holds : (l : ℕ) → Memᴰ l c → Right v l → Settled v c
  waits : (l m : ℕ) (ls : List ℕ) → filter (is_unset v) c ≡ l ∷ m ∷ ls → Settled v c

-- ---- the clauses

-- the meaning of what a scan answers
abbrev pub Found : List ℕ → List (List ℕ) → Seen → Type 0
Found v cs broken = (c : List ℕ) × Memᴰ c cs × Broken v c
Found v cs (forcing l) = (c : List ℕ) × Memᴰ c cs × Forces v c l
Found v cs quiet = (c : List ℕ) → Memᴰ c cs → Settled v c

-- v, and what unit steps make of it
pub data UnitSteps (cs : List (List ℕ)) (v : List ℕ) : List ℕ → Type 0 where
  stay : UnitSteps cs v v
  more : {w : List ℕ} (l : ℕ) → UnitSteps cs v w → Found w cs (forcing l) → UnitSteps cs v (set w (l / 2) (1 - l % 2))

-- every clause is settled: none is broken, and none forces
abbrev pub AtRest : List (List ℕ) → List ℕ → Type 0
AtRest cs w = Found w cs quiet

-- ---- a queue of variables

-- a variable of the clause is in the queue
pub record Stirred (c qs : List ℕ) : Type 0 where
  pub literal : ℕ
  pub has : Memᴰ literal c
  pub queued : Memᴰ (literal / 2) qs

-- the clause is settled, or one of its variables is in the queue
abbrev pub SettledOr : List ℕ → List ℕ → List ℕ → Type 0
SettledOr w qs c = Settled w c ⊎ Stirred c qs

-- so is every clause
abbrev pub Waiting : List (List ℕ) → List ℕ → List ℕ → Type 0
Waiting cs w qs = (c : List ℕ) → Memᴰ c cs → SettledOr w qs c

-- ---- a closure

-- what a closure answers
pub data Closed : Type 0 where
  breaks : Closed
  rests : List ℕ → Closed

-- w is at rest and extends v, and every other such extends w
pub record Least (cs : List (List ℕ)) (v w : List ℕ) : Type 0 where
  pub long : length w ≡ length v
  pub small : (i : ℕ) → value_of w i ≤ 2
  pub extends : v ⊑ w
  pub at_rest : AtRest cs w
  pub least : (u : List ℕ) → v ⊑ u → AtRest cs u → w ⊑ u

-- what a closure has to find
abbrev pub Closes : List (List ℕ) → List ℕ → Closed → Type 0
Closes cs v breaks = (u : List ℕ) → v ⊑ u → AtRest cs u → ⊥
Closes cs v (rests w) = Least cs v w
