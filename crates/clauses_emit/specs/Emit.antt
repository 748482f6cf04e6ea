-- What the code that writes the clause list is stated with: the literals of one clause, and clauses counted and written one after the
-- other. Only contracts of functions that write clauses cite it. Assumes nothing.
use Rattle.std.specs.Prelude.{◌≡◌, Bool, true, false, ◌&&◌, ◌||◌, ℕ, suc, ◌+◌, ◌-◌, ◌%◌, ◌≤◌, length, get_or, take, drop, eqb, ltb, leb}
use mathlib.Core.List.{List, [], ◌∷◌, ◌++◌, map, Memᴰ}
use Rattle.lists.specs.Lists.{mem, over}
use Rattle.pairs.specs.Triangles.{together}
use Rattle.table_spec.specs.File.{records}
use Rattle.clauses_spec.specs.Clauses.{opposite}
use Rattle.clauses_emit.specs.declared.literals.Literals.{Literals}
use Rattle.clauses_emit.specs.declared.tally.Tally.{Tally}

-- ---- the literals of a clause

-- the literals so far
abbrev pub literals_of : Literals → List ℕ
literals_of c = take c.n c.words

-- one literal more: "A repeated literal is written once, at its first place."
unfoldable pub with_literal : List ℕ → ℕ → List ℕ
with_literal ls l = elim (mem l ls) [ true ↦ ls | false ↦ ls ++ (l ∷ []) ]

unfoldable pub with_all : List ℕ → List ℕ → List ℕ
with_all ls [] = ls
with_all ls (x ∷ xs) = with_all (with_literal ls x) xs

-- the clause that literals to come make of those kept so far, or none: "A clause with a variable both ways is left out."
unfoldable pub tidy_from : List ℕ → List ℕ → List (List ℕ)
tidy_from kept [] = kept ∷ []
tidy_from kept (l ∷ ls) = elim (mem (opposite l) kept) [ true ↦ [] | false ↦ tidy_from (with_literal kept l) ls ]

-- the same with the targets to come: "Left out if some q' = p'."
unfoldable pub matching_from : List ℕ → ℕ → List ℕ → List (List ℕ)
matching_from kept p' qs = elim (mem p' qs) [ true ↦ [] | false ↦ tidy_from kept (map (together p') qs) ]

-- a target that leaves the clause out: p' itself, or one that makes a variable both ways with a literal kept
unfoldable pub leaves : List ℕ → ℕ → ℕ → Bool
leaves kept p' q = eqb q p' || mem (opposite (together p' q)) kept

-- numbers that ascend from m on
pub data Ascending : ℕ → List ℕ → Type 0 where
  none : {m : ℕ} → Ascending m []
  next : {m q : ℕ} {qs : List ℕ} → m ≤ q → Ascending (suc q) qs → Ascending m (q ∷ qs)

-- the targets of records of w bytes
abbrev pub last_bytes : ℕ → List ℕ → List ℕ
last_bytes w s = map (λ r. get_or r (w - 1) 0) (records w s)

-- every literal says that a pair is not joined, as premises do
abbrev pub Negative : List ℕ → Type 0
Negative ls = (l : ℕ) → Memᴰ l ls → l % 2 ≡ 1

-- the clause has these literals
pub record Holds (c : Literals) (ls : List ℕ) : Type 0 where
  pub count : c.n ≡ length ls
  pub same : literals_of c ≡ ls

-- ---- clauses counted and written

-- whether clauses are written, and the counts
pub record Counts : Type 0 where
  pub write : Bool
  pub clauses : ℕ
  pub words : ℕ

-- and the buffer
pub record State : Type 0 where
  pub tally : Counts
  pub list : List ℕ

abbrev pub with_list : Counts → List ℕ → State
with_list t list = record { tally = t; list = list }

-- those of the code
abbrev pub counts_of : Tally → Counts
counts_of t = record { write = t.write; clauses = t.clauses; words = t.words }

abbrev pub state : Tally → List ℕ → State
state t list = with_list (counts_of t) list

-- the counts after a clause of n literals more, where the buffer has room for so many words; nothing changes once there are more
unfoldable pub counted_by : Counts → ℕ → ℕ → Counts
counted_by t n room = elim (ltb room t.words) [ true ↦ t | false ↦ record { write = t.write; clauses = t.clauses + 1; words = t.words + 1 + n } ]

-- the buffer with words put at a place
unfoldable pub place : ℕ → List ℕ → List ℕ → List ℕ
place k xs list = take k list ++ over xs (drop k list)

-- the buffer after one clause more: its words are written where they are to be and where they fit
unfoldable pub written : Counts → List ℕ → List ℕ → List ℕ
written t c list = elim (t.write && leb (t.words + 1 + length c) (length list)) [ true ↦ place t.words (length c ∷ c) list | false ↦ list ]

-- one clause more; nothing changes once there are more words than the buffer has
unfoldable pub emit_one : List ℕ → State → State
emit_one c s = elim (ltb (length s.list) s.tally.words) [
  | true ↦ s
  | false ↦ with_list (record { write = s.tally.write; clauses = s.tally.clauses + 1; words = s.tally.words + 1 + length c }) (written s.tally c s.list)
]

-- the clauses, in their order
unfoldable pub emit : List (List ℕ) → State → State
emit [] s = s
emit (c ∷ cs) s = emit cs (emit_one c s)
