-- The search, step by step (document 01, "The search"): repeat the first of (a) to (e) that applies. Assumes nothing.
use Rattle.std.specs.Prelude.{Bool, true, false, List, [], ◌∷◌, ℕ, zero, suc, ◌+◌, ◌-◌, ◌*◌, ◌/◌, ◌%◌, set, replicate, eqb}
use Rattle.std.proofs.Math.Option.{Option, none, some}
use Rattle.lists.specs.Lists.{any, filter}
use Rattle.cnf.specs.Clauses.{value_of}

-- the literal is right under the values
unfoldable pub is_right : List ℕ → ℕ → Bool
is_right v l = eqb (value_of v (l / 2) + l % 2) 1

-- its variable is unset
unfoldable pub is_unset : List ℕ → ℕ → Bool
is_unset v l = eqb (value_of v (l / 2)) 2

-- what the clauses say of the values: "A clause with every literal false" (broken); else "A clause with no true literal and one unset",
-- which forces that literal; else nothing
pub data Seen : Type 0 where
  broken : Seen
  forcing : ℕ → Seen
  quiet : Seen

-- a clause with no true literal, by its unset literals
unfoldable pub by_unset : List ℕ → Seen
by_unset [] = broken
by_unset (l ∷ []) = forcing l
by_unset (l ∷ m ∷ ls) = quiet

-- one clause
unfoldable pub seen : List ℕ → List ℕ → Seen
seen v c = elim (any (is_right v) c) [ true ↦ quiet | false ↦ by_unset (filter (is_unset v) c) ]

-- (a) goes before (b), and the first forcing clause before later ones
unfoldable pub both : Seen → Seen → Seen
both broken s = broken
both (forcing l) broken = broken
both (forcing l) (forcing m) = forcing l
both (forcing l) quiet = forcing l
both quiet s = s

-- all clauses
unfoldable pub scan : List ℕ → List (List ℕ) → Seen
scan v [] = quiet
scan v (c ∷ cs) = both (seen v c) (scan v cs)

-- a guess that stands: the values before it, and its variable
pub record Guess : Type 0 where
  pub values : List ℕ
  pub variable : ℕ

-- the values, the guesses that stand, latest first, and the guesses made
pub record State : Type 0 where
  pub values : List ℕ
  pub guesses : List Guess
  pub made : ℕ

-- how the search ends, with the guesses made; `unfinished` never comes out (proofs/Ends)
pub data Outcome : Type 0 where
  solved : List ℕ → ℕ → Outcome
  none_exists : ℕ → Outcome
  spent : ℕ → Outcome
  unfinished : Outcome

pub data Next : Type 0 where
  goes : State → Next
  ends : Outcome → Next

-- (a) "with no guess standing, no assignment exists; else undo the latest guess and all set after it, and set its variable false, forced"
unfoldable pub undo : List Guess → ℕ → Next
undo [] k = ends (none_exists k)
undo (g ∷ gs) k = goes (record { values = set g.values g.variable 0; guesses = gs; made = k })

-- the lowest unset variable, counted from x
unfoldable pub lowest_unset : List ℕ → ℕ → Option ℕ
lowest_unset [] x = none
lowest_unset (y ∷ v) x = elim (eqb y 2) [ true ↦ some x | false ↦ lowest_unset v (suc x) ]

-- (c) "Nothing unset: solved." (d) "Guesses made equal the budget: spent." (e) "Set the lowest unset variable true, a guess, and count it."
unfoldable pub decide : ℕ → State → Option ℕ → Next
decide b s none = ends (solved s.values s.made)
decide b s (some x) = elim (eqb s.made b) [
  | true ↦ ends (spent s.made)
  | false ↦ goes (record { values = set s.values x 1; guesses = record { values = s.values; variable = x } ∷ s.guesses; made = s.made + 1 })
]

-- (b) "set that literal, forced"
unfoldable pub act : ℕ → State → Seen → Next
act b s broken = undo s.guesses s.made
act b s (forcing l) = goes (record { values = set s.values (l / 2) (1 - l % 2); guesses = s.guesses; made = s.made })
act b s quiet = decide b s (lowest_unset s.values 0)

unfoldable pub step : List (List ℕ) → ℕ → State → Next
step cs b s = act b s (scan s.values cs)

-- at most k steps
unfoldable pub run : ℕ → List (List ℕ) → ℕ → Next → Outcome
run zero cs b (goes s) = unfinished
run zero cs b (ends o) = o
run (suc k) cs b (goes s) = run k cs b (step cs b s)
run (suc k) cs b (ends o) = o

-- "Start with nothing set", n variables, b the budget; so many steps are enough (proofs/Ends)
unfoldable pub search_from : List (List ℕ) → ℕ → ℕ → Outcome
search_from cs n b = run (2 * suc b * suc (suc n)) cs b (goes (record { values = replicate n 2; guesses = []; made = 0 }))

-- the guesses that an outcome has made
abbrev pub made_of : Outcome → ℕ
made_of (solved v k) = k
made_of (none_exists k) = k
made_of (spent k) = k
made_of unfinished = 0

-- whether the budget is spent
abbrev pub is_spent : Outcome → Bool
is_spent (solved v k) = false
is_spent (none_exists k) = false
is_spent (spent k) = true
is_spent unfinished = false
