-- Literals, clauses, assignments, and clauses as words (document 01, "Pairs and clauses"). Assumes nothing.
use Rattle.std.specs.Prelude.{◌≡◌, Bool, true, ◌&&◌, not, ℕ, zero, suc, ◌+◌, ◌*◌, ◌/◌, ◌%◌, ◌≤◌, ◌<◌, length, get_or, take, drop, eqb, ltb, leb}
use mathlib.Core.List.{List, [], ◌∷◌, Memᴰ}
use Rattle.lists.specs.Lists.{all, filter, concat_map, mem}

-- "Literal 2v says v is true, 2v+1 says v is false."
abbrev pub positive : ℕ → ℕ
positive v = 2 * v

abbrev pub negative : ℕ → ℕ
negative v = 2 * v + 1

-- values are one number a variable: 0 false, 1 true, 2 unset; what is missing is unset
abbrev pub value_of : List ℕ → ℕ → ℕ
value_of v x = get_or v x 2

-- the literal is right under the values
abbrev pub Right : List ℕ → ℕ → Type 0
Right v l = value_of v (l / 2) + l % 2 ≡ 1

-- "An assignment makes every variable .. true or false": n values, none unset
pub record Assignment (n : ℕ) (v : List ℕ) : Type 0 where
  pub long : length v ≡ n
  pub bit : (x : ℕ) → x < n → value_of v x < 2

-- "It satisfies the list where each clause has a literal that is then right."
pub record Model (cs : List (List ℕ)) (n : ℕ) (v : List ℕ) : Type 0 where
  pub assigns : Assignment n v
  pub each : (c : List ℕ) → Memᴰ c cs → (l : ℕ) × Memᴰ l c × Right v l

-- of the assignments that satisfy the list, only v makes every variable true that v makes true
pub record Maximal (cs : List (List ℕ)) (n : ℕ) (v : List ℕ) : Type 0 where
  pub only : (a : List ℕ) → Model cs n a → ((x : ℕ) → value_of v x ≡ 1 → value_of a x ≡ 1) → a ≡ v

-- the literal says that its variable is true
unfoldable pub is_positive : ℕ → Bool
is_positive l = eqb (l % 2) 0

-- no clause has more than one positive literal
pub record Horn (cs : List (List ℕ)) : Type 0 where
  pub one : (c : List ℕ) → Memᴰ c cs → length (filter is_positive c) ≤ 1

-- "A clause is 16-bit words: its literal count, then the literals."
unfoldable pub words_of : List (List ℕ) → List ℕ
words_of cs = concat_map (λ c. length c ∷ c) cs

-- the clauses that words hold, at most k of them; the last may be cut short by the end
unfoldable pub clauses_within : ℕ → List ℕ → List (List ℕ)
clauses_within zero ws = []
clauses_within (suc k) [] = []
clauses_within (suc k) (n ∷ ws) = take n ws ∷ clauses_within k (drop n ws)

unfoldable pub clauses_in : List ℕ → List (List ℕ)
clauses_in ws = clauses_within (length ws) ws

-- no clause goes "past the end"
unfoldable pub whole_within : ℕ → List ℕ → Bool
whole_within zero ws = true
whole_within (suc k) [] = true
whole_within (suc k) (n ∷ ws) = leb n (length ws) && whole_within k (drop n ws)

unfoldable pub whole : List ℕ → Bool
whole ws = whole_within (length ws) ws

-- no number stands twice
unfoldable pub distinct : List ℕ → Bool
distinct [] = true
distinct (x ∷ xs) = not (mem x xs) && distinct xs

-- no "variable past the count or twice in a clause"
unfoldable pub clause_fits : ℕ → List ℕ → Bool
clause_fits n c = all (λ l. ltb (l / 2) n) c && distinct (mathlib.Core.List.map (λ l. l / 2) c)
