-- The tops of up to 600 pairs as rows of ten 64-bit words, as the code has them. Assumes nothing.
use Rattle.std.specs.Prelude.{◌↔◌, ◌≢◌, ◌≡◌, Bool, true, false, not, ℕ, zero, suc, ◌+◌, ◌*◌, ◌/◌, ◌%◌, ◌^◌, ◌<◌, ◌≤◌, length, get_or, set, eqb}
use mathlib.Core.List.{List, [], ◌∷◌, map, Memᴰ}
use Rattle.std.specs.Int.Bits.{bit_or}
use Rattle.lists.specs.Lists.{concat_map, upto}
use Rattle.lists.specs.Bits.{Bit, has}
use Rattle.table_spec.specs.File.{records}
use Rattle.table_spec.specs.Reading.{ascend}
use Rattle.tops_spec.specs.Tops.{add, by_internals, by_calls, by_returns}
use Rattle.fit_spec.specs.Fit.{after, pair_move, pair_moves, pair_return, pair_returns}
use Rattle.fit_rounds.specs.declared.pairs.Kind.{Kind}
use Rattle.fit_rounds.specs.declared.pairs.Kind.TheVariants.{Internal, Call}

-- the rows f hold the words F: bit x of word u is bit x % 64 of the word x / 64 of row u
pub record Holds (f F : List ℕ) : Type 0 where
  pub long : length f ≡ 6000
  pub few : length F ≤ 600
  pub small : (i : ℕ) → get_or f i 0 < 2 ^ 64
  pub narrow : (u x : ℕ) → Bit (get_or F u 0) x → x < 640
  pub bits : (u x : ℕ) → u < 600 → x < 640 → Bit (get_or f (u * 10 + x / 64) 0) (x % 64) ↔ Bit (get_or F u 0) x

-- ---- one row, whatever words the rows hold

-- r tells bit x of row u
abbrev pub HasBit : List ℕ → ℕ → ℕ → Bool → Type 0
HasBit f u x r = (F : List ℕ) → Holds f F → r ≡ has F u x

-- r tells whether row u has some bit
abbrev pub HasAny : List ℕ → ℕ → Bool → Type 0
HasAny f u r = (F : List ℕ) → Holds f F → r ≡ not (eqb (get_or F u 0) 0)

-- row u gains bit x
abbrev pub GainsBit : ℕ → ℕ → List ℕ → List ℕ → Type 0
GainsBit u x f g = (F : List ℕ) → Holds f F → u < length F → Holds g (add F u (2 ^ x))

-- row v gains row u
abbrev pub GainsRow : ℕ → ℕ → List ℕ → List ℕ → Type 0
GainsRow u v f g = (F : List ℕ) → Holds f F → u < length F → v < length F → Holds g (add F v (get_or F u 0))

-- the first k words of row v gain those of row u, from the first on; a row has 10 words, so k is at most 10
unfoldable pub joined : ℕ → ℕ → ℕ → List ℕ → List ℕ
joined zero u v f = f
joined (suc k) u v f =
    let g = joined k u v f in set g (v * 10 + k) (bit_or (get_or g (v * 10 + k) 0) (get_or g (u * 10 + k) 0))

-- one of the first k words of row u is not 0
unfoldable pub any_in : ℕ → ℕ → List ℕ → Bool
any_in zero u f = false
any_in (suc k) u f = elim (eqb (get_or f (u * 10 + k) 0) 0) [ true ↦ any_in k u f | false ↦ true ]

-- row u gains bit x
unfoldable pub with_bit : ℕ → ℕ → List ℕ → List ℕ
with_bit u x f = set f (u * 10 + x / 64) (bit_or (get_or f (u * 10 + x / 64) 0) (2 ^ (x % 64)))

-- ---- passes over the records of the first table

-- what an internal or a call of pairs does to the words
unfoldable pub step_kind : Kind → ℕ → ℕ → List ℕ → List ℕ
step_kind Internal u v f = add f v (get_or f u 0)
step_kind Call u v f = elim (eqb (get_or f u 0) 0) [ true ↦ f | false ↦ add f v (2 ^ u) ]

unfoldable pub by_kind : Kind → List (List ℕ) → List ℕ → List ℕ
by_kind Internal rs f = by_internals rs f
by_kind Call rs f = by_calls rs f

-- what a return of pairs does
unfoldable pub step_return : ℕ → ℕ → ℕ → List ℕ → List ℕ
step_return u y v f = elim (has f u y) [ true ↦ add f v (get_or f y 0) | false ↦ f ]

-- rows f that hold words become rows g that hold what T makes of the words, as many words as there are pairs
pub record Turns (k n : ℕ) (f g : List ℕ) (T : List ℕ → List ℕ) : Type 0 where
  pub holds : (F : List ℕ) → Holds f F → length F ≡ k * suc n → Holds g (T F)
  pub long : (F : List ℕ) → length (T F) ≡ length F

-- rows turn as a move from u to v says, and as a return from u over y to v
abbrev pub MoveTurn : Kind → ℕ → ℕ → List ℕ → List ℕ → Type 0
MoveTurn kind u v f g = (k n : ℕ) → u < k * suc n → v < k * suc n → Turns k n f g (step_kind kind u v)

abbrev pub ReturnTurn : ℕ → ℕ → ℕ → List ℕ → List ℕ → Type 0
ReturnTurn u y v f g = (k n : ℕ) → u < k * suc n → y < k * suc n → v < k * suc n → Turns k n f g (step_return u y v)

-- records of w bytes that name states below k and symbols below 32
pub record Named (w k : ℕ) (s : List ℕ) : Type 0 where
  pub states : (r : List ℕ) → Memᴰ r (records w s) → (i : ℕ) → i ≢ 1 → i < w → get_or r i 0 < k
  pub symbols : (r : List ℕ) → Memᴰ r (records w s) → get_or r 1 0 < 32

-- a section of the second table, whose states are below n: its records ascend
pub record Ascends (w n : ℕ) (s : List ℕ) : Type 0 where
  pub few : n ≤ 24
  pub named : Named w n s
  pub in_order : ascend (records w s) ≡ true

-- where the second table goes, for each state, symbol and popped state: its number, n where it has no move
pub record Nexts (n : ℕ) (next : List ℕ) : Type 0 where
  pub few : n ≤ 24
  pub within : (i : ℕ) → get_or next i 0 ≤ n

pub record NextMoves (n : ℕ) (ss : List (List ℕ)) (next : List ℕ) : Type 0 where
  pub at : (b a : ℕ) → b ≤ n → a < 32 → get_or next (b * 32 + a) 0 ≡ after ss n (b ∷ a ∷ [])

pub record NextReturns (n : ℕ) (ss : List (List ℕ)) (next : List ℕ) : Type 0 where
  pub at : (b a c : ℕ) → b ≤ n → a < 32 → c ≤ n → get_or next ((b * 32 + a) * 25 + c) 0 ≡ after ss n (b ∷ a ∷ c ∷ [])

-- ---- what the passes do to the rows, whatever the second table's records ss are

abbrev pub MoveTurns : Kind → ℕ → ℕ → ℕ → ℕ → List ℕ → List ℕ → List ℕ → Type 0
MoveTurns kind p a q n next f g =
    (ss : List (List ℕ)) → NextMoves n ss next → (k : ℕ) → p < k → q < k → Turns k n f g (by_kind kind (map (pair_move n ss (p ∷ a ∷ q ∷ [])) (upto (suc n))))

abbrev pub MovesTurn : Kind → ℕ → List ℕ → List ℕ → List ℕ → List ℕ → Type 0
MovesTurn kind n section next f g = (ss : List (List ℕ)) → NextMoves n ss next → (k : ℕ) → Named 3 k section → Turns k n f g (by_kind kind (pair_moves n (records 3 section) ss))

-- a return of the first with every state of the second and every popped one
abbrev pub over_each : ℕ → List (List ℕ) → List ℕ → List (List ℕ)
over_each n ss r = concat_map (λ b. map (pair_return n ss r b) (upto (suc n))) (upto (suc n))

abbrev pub ReturnTurns : ℕ → ℕ → ℕ → ℕ → ℕ → List ℕ → (List (List ℕ) → List (List ℕ)) → List ℕ → List ℕ → Type 0
ReturnTurns p a s q n next made f g = (ss : List (List ℕ)) → NextReturns n ss next → (k : ℕ) → p < k → s < k → q < k → Turns k n f g (by_returns (made ss))

abbrev pub ReturnsTurn : ℕ → List ℕ → List ℕ → List ℕ → List ℕ → Type 0
ReturnsTurn n section next f g = (ss : List (List ℕ)) → NextReturns n ss next → (k : ℕ) → Named 4 k section → Turns k n f g (by_returns (pair_returns n (records 4 section) ss))
