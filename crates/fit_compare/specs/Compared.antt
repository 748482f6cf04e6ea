-- What the code of the comparison has of two tables, and what it tells of them. Assumes nothing.
use Rattle.std.specs.Prelude.{◌≡◌, Bool, true, false, ◌&&◌, List, ℕ, suc, ◌+◌, ◌*◌, ◌^◌, ◌<◌, length, replicate}
use Rattle.lists.specs.Bits.{has}
use Rattle.table_spec.specs.File.{Table, records}
use Rattle.limits.specs.Limits.{standard}
use Rattle.table_spec.specs.Reading.{is_initial, is_accepting}
use Rattle.table_spec.specs.declared.Starts.{Starts}
use Rattle.table_spec.specs.Language.{count}
use Rattle.table_view.specs.Sections.{ReadAs}
use Rattle.tops_spec.specs.Tops.{add, rounds, start_words}
use Rattle.fit_spec.specs.Fit.{pair_count, pair_table, ends}
use Rattle.fit_rounds.specs.Rows.{Holds, Named, NextMoves, NextReturns}

-- what the code has of two tables s and t: the first's records as bytes, where the second goes, and their counts
pub record Given (s t : Table) (internals calls returns moves pushes pops : List ℕ) (k n : ℕ) : Type 0 where
  pub firsts : count s ≡ k
  pub seconds : count t ≡ n
  pub internals-are : s.internals ≡ records 3 internals
  pub calls_are : s.calls ≡ records 3 calls
  pub returns-are : s.returns ≡ records 4 returns
  pub internals-named : Named 3 k internals
  pub calls-named : Named 3 k calls
  pub returns-named : Named 4 k returns
  pub moves-are : NextMoves n t.internals moves
  pub pushes_are : NextMoves n t.calls pushes
  pub pops_are : NextReturns n t.returns pops

-- an initial pair gains the bottom
unfoldable pub start_step : ℕ → ℕ → ℕ → List ℕ → List ℕ
start_step byte u bottom f = elim (is_initial byte) [ true ↦ add f u (2 ^ bottom) | false ↦ f ]

-- r tells whether the pair u of a byte accepts with the bottom on top
abbrev pub EndsAt : ℕ → ℕ → ℕ → List ℕ → Bool → Type 0
EndsAt byte u bottom f r = (F : List ℕ) → Holds f F → r ≡ (is_accepting byte && has F u bottom)

-- rows turn as a pair u of a byte starts
abbrev pub StartAt : ℕ → ℕ → ℕ → List ℕ → List ℕ → Type 0
StartAt byte u bottom f g = (F : List ℕ) → Holds f F → u < length F → Holds g (start_step byte u bottom F)

-- two tables that were read, and their starts
pub record BothRead (b : List ℕ) (x : Starts) (c : List ℕ) (y : Starts) : Type 0 where
  pub first : ReadAs standard b x
  pub second : ReadAs standard c y

-- the rounds of the definition, from rows f to rows g
abbrev pub Rests : List ℕ → List ℕ → List ℕ → List ℕ → List ℕ → List ℕ → ℕ → ℕ → List ℕ → List ℕ → Type 0
Rests internals calls returns moves pushes pops k n f g =
    (s t : Table) → Given s t internals calls returns moves pushes pops k n → (F : List ℕ) → Holds f F → length F ≡ k * suc n
    → Holds g (rounds (suc (k * suc n * suc (k * suc n))) (pair_table s t) F)

-- the answer, for tables with these states
abbrev pub EndsTold : List ℕ → List ℕ → List ℕ → Bool → Type 0
EndsTold first second f r =
    (s t : Table) → s.states ≡ first → t.states ≡ second → (F : List ℕ) → Holds f F → r ≡ ends (length first * suc (length second)) (pair_table s t) F

-- the words at the start, from rows without a bit
abbrev pub StartsTold : List ℕ → List ℕ → List ℕ → List ℕ → Type 0
StartsTold first second f g =
    (s t : Table) → s.states ≡ first → t.states ≡ second → Holds f (replicate (length first * (length second + 1)) 0) → Holds g (start_words (pair_count s t) (pair_table s t))
