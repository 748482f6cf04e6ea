-- State maps (document 01, "Check and quotient"). Assumes nothing.
use Rattle.std.specs.Prelude.{Bool, true, ◌&&◌, List, [], ◌∷◌, ◌≡◌, ℕ, suc, max, ◌<◌, length, get_or, eqb, leb}
use Rattle.vpa.specs.Quotients.{Joined, Raq}
use Rattle.table_spec.specs.File.{Table}
use Rattle.table_spec.specs.Language.{count, automaton}

-- "A map has one byte a state: class numbers"
abbrev pub class_of : List ℕ → ℕ → ℕ
class_of m q = get_or m q 0

-- "The map joins two states where their class numbers are equal."
unfoldable pub joins : List ℕ → ℕ → ℕ → Bool
joins m p q = eqb (class_of m p) (class_of m q)

-- the same, as a relation on the table's states
abbrev pub JoinedBy : Table → List ℕ → ℕ → ℕ → Type 0
JoinedBy t m = Joined (automaton t) (class_of m)

-- the class count: one past the largest class number
unfoldable pub classes : List ℕ → ℕ
classes [] = 0
classes (c ∷ m) = max (suc c) (classes m)

-- "each at most one above the largest before it, the first 0": next is the number of a new class
unfoldable pub numbered_from : ℕ → List ℕ → Bool
numbered_from next [] = true
numbered_from next (c ∷ m) = leb c next && numbered_from (max next (suc c)) m

unfoldable pub numbered : List ℕ → Bool
numbered m = numbered_from 0 m

-- a properly numbered map of the table's states: "one byte a state", numbered as said
pub record Proper (t : Table) (m : List ℕ) : Type 0 where
  pub long : length m ≡ count t
  pub in_order : numbered m ≡ true

-- Definition 1 of the relation that a map gives
abbrev pub RaqMap : Table → List ℕ → Type 0
RaqMap t m = Raq (automaton t) (JoinedBy t m)

-- demand 3: "No map meeting Definition 1 joins all pairs of a delivered map and one more", whatever numbers f gives to the classes
pub record NoneCoarser (t : Table) (m : List ℕ) : Type 0 where
  pub none : (f : ℕ → ℕ) → Raq (automaton t) (Joined (automaton t) f) → ((p q : ℕ) → JoinedBy t m p q → f p ≡ f q) → (p q : ℕ) → p < count t → q < count t → f p ≡ f q → JoinedBy t m p q
