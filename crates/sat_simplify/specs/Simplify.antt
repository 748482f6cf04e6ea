-- What is left of a list after the first pass. Assumes nothing.
use Rattle.std.specs.Prelude.{◌≡◌, true, not, ℕ, ◌+◌, ◌≤◌, ◌<◌, length, take, eqb}
use mathlib.Core.List.{List, [], ◌∷◌, ◌++◌, map, Memᴰ}
use Rattle.lists.specs.Lists.{any, filter, upto}
use Rattle.cnf.specs.Clauses.{value_of, clauses_in, whole, words_of}
use Rattle.cnf.specs.Search.{is_right}
use Rattle.cnf.specs.Closing.{Formed}
use Rattle.sat_trail.specs.Conclusions.{saying}
use Rattle.sat_literal.specs.Literals.{clause_at}
use Rattle.sat_scan.specs.Scan.{StandsAt}

-- for each variable a clause of the literal that is right
unfoldable pub units : List ℕ → List ℕ → List (List ℕ)
units v xs = map (λ x. saying x (value_of v x) ∷ []) xs

-- the clauses that have no right literal
unfoldable pub unheld : List ℕ → List (List ℕ) → List (List ℕ)
unheld v cs = filter (λ c. not (any (is_right v) c)) cs

-- what is left of clauses: the variables that are set, and the clauses that do not hold
abbrev pub lightened : List ℕ → List ℕ → List (List ℕ) → List (List ℕ)
lightened v xs cs = units v xs ++ unheld v cs

-- the clauses that stand at the places
abbrev pub clauses_at : List ℕ → List ℕ → List (List ℕ)
clauses_at ws ps = map (clause_at ws) ps

-- the variables below n that are set
unfoldable pub set_below : List ℕ → ℕ → List ℕ
set_below v n = filter (λ x. not (eqb (value_of v x) 2)) (upto n)

-- all that are set
abbrev pub variables_set : List ℕ → List ℕ
variables_set v = set_below v (length v)

-- a variable that is set
abbrev pub SetIn : List ℕ → ℕ → Type 0
SetIn v x = (x < length v) × (value_of v x < 2)

abbrev pub AllSet : List ℕ → List ℕ → Type 0
AllSet v xs = (x : ℕ) → Memᴰ x xs → SetIn v x

-- what a list can be lightened by: clauses over at most 780 variables, places of clauses, and variables that are set
pub record Lightens (ws v xs ps : List ℕ) : Type 0 where
  pub formed : Formed (clauses_in ws) (length v)
  pub most : length v ≤ 780
  pub places : (p : ℕ) → Memᴰ p ps → StandsAt ws p
  pub set_in : AllSet v xs

-- the same of all clauses of a list and all variables that are set
pub record LightensAll (ws v : List ℕ) : Type 0 where
  pub all_there : whole ws ≡ true
  pub formed : Formed (clauses_in ws) (length v)
  pub most : length v ≤ 780
  pub small : (x : ℕ) → value_of v x ≤ 2

-- the first r words are the clauses
abbrev pub Written : List ℕ → ℕ → List (List ℕ) → Type 0
Written out r cs = take r out ≡ words_of cs

-- a clause of the right literal of x is put after the first `at` words
abbrev pub PutUnit : List ℕ → ℕ → List ℕ → ℕ → List ℕ → ℕ → Type 0
PutUnit v x old at new r = (r ≡ at + 2) × (take r new ≡ take at old ++ (1 ∷ saying x (value_of v x) ∷ []))

-- the first r of the new words are the first `at` of the old ones, with the clause after them unless it holds
pub record PutOpen (v c old : List ℕ) (at : ℕ) (new : List ℕ) (r : ℕ) : Type 0 where
  pub words : take r new ≡ take at old ++ words_of (unheld v (c ∷ []))
