-- What each clause of a list has left: the weights of its literals that are not false, added up; and the places of a literal, which lead to its
-- clauses. Assumes nothing.
use Rattle.std.specs.Prelude.{◌≡◌, Bool, true, false, ℕ, ◌+◌, ◌*◌, ◌/◌, ◌%◌, ◌≤◌, ◌<◌, length, get_or, take, eqb}
use mathlib.Core.List.{List, [], ◌∷◌, Memᴰ}
use Rattle.std.proofs.Math.Seq.{slice}
use Rattle.lists.specs.Lists.{filter}
use Rattle.cnf.specs.Clauses.{value_of, clauses_in}

-- how often a number stands in a list
abbrev pub times : ℕ → List ℕ → ℕ
times x xs = length (filter (eqb x) xs)

-- the clause of a number
abbrev pub numbered : List ℕ → ℕ → List ℕ
numbered ws c = get_or (clauses_in ws) c []

-- the places of a literal: firsts[l] up to firsts[l + 1] of `clauses`
abbrev pub places_of : List ℕ → List ℕ → ℕ → List ℕ
places_of firsts clauses l = slice (get_or firsts l 0) (get_or firsts (l + 1) 0) clauses

-- they have the number of each clause as often as the literal stands in it, and no other
pub record Indexed (ws firsts clauses : List ℕ) : Type 0 where
  pub short : length ws ≤ 32768
  pub rising : (l : ℕ) → l < 1560 → get_or firsts l 0 ≤ get_or firsts (l + 1) 0
  pub inside : (l : ℕ) → l < 1560 → get_or firsts (l + 1) 0 ≤ length clauses
  pub numbers : (l c : ℕ) → l < 1560 → Memᴰ c (places_of firsts clauses l) → c < length (clauses_in ws)
  pub stands : (l c : ℕ) → l < 1560 → c < length (clauses_in ws) → times c (places_of firsts clauses l) ≡ times l (numbered ws c)

-- the weight of a literal, which is below 2,048: one literal weighs less than 4,096, and two do not
abbrev pub weight : ℕ → ℕ
weight l = 2048 + l

-- the literal is false under the values
unfoldable pub is_false : List ℕ → ℕ → Bool
is_false v l = eqb (value_of v (l / 2)) (l % 2)

-- the weights of the literals that are not
unfoldable pub weigh : List ℕ → List ℕ → ℕ
weigh v [] = 0
weigh v (l ∷ ls) = elim (is_false v l) [ true ↦ weigh v ls | false ↦ weight l + weigh v ls ]

-- each clause has its word
pub record CountersOf (ws v counters : List ℕ) : Type 0 where
  pub room : length (clauses_in ws) ≤ length counters
  pub each : (c : ℕ) → c < length (clauses_in ws) → get_or counters c 0 ≡ weigh v (numbered ws c)

-- the counters have the weight for each place
pub record Falls (places : List ℕ) (l : ℕ) (counters : List ℕ) : Type 0 where
  pub small : l < 2048
  pub inside : (c : ℕ) → Memᴰ c places → c < length counters
  pub enough : (c : ℕ) → Memᴰ c places → times c places * weight l ≤ get_or counters c 0

-- it is taken from them
pub record Fell (places : List ℕ) (l : ℕ) (counters counters' : List ℕ) : Type 0 where
  pub long : length counters' ≡ length counters
  pub less : (c : ℕ) → get_or counters' c 0 + times c places * weight l ≡ get_or counters c 0

-- of the places' clauses those are noted that have at most one literal left
pub record Noted (places counters noted : List ℕ) (count : ℕ) : Type 0 where
  pub few : count ≤ length noted
  pub among : (c : ℕ) → Memᴰ c (take count noted) → Memᴰ c places
  pub light : (c : ℕ) → Memᴰ c (take count noted) → get_or counters c 0 < 4096
  pub every : (c : ℕ) → Memᴰ c places → get_or counters c 0 < 4096 → Memᴰ c (take count noted)

-- there is room for the weight
pub record Rises (places : List ℕ) (l : ℕ) (counters : List ℕ) : Type 0 where
  pub small : l < 2048
  pub inside : (c : ℕ) → Memᴰ c places → c < length counters
  pub room : (c : ℕ) → Memᴰ c places → get_or counters c 0 + times c places * weight l < 4294967296
