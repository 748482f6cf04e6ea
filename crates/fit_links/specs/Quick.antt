-- Rows that hold tops of pairs, not yet all of them, and links between pairs. Assumes nothing.
use Rattle.std.specs.Prelude.{◌≡◌, ◌≢◌, Bool, true, false, ℕ, zero, suc, ◌+◌, ◌*◌, ◌<◌, ◌≤◌, length, get_or, eqb}
use mathlib.Core.List.{List, [], ◌∷◌, Memᴰ}
use Rattle.std.proofs.Math.Option.{Option, some}
use Rattle.std.specs.Int.Bits.{bit_or}
use Rattle.lists.specs.Bits.{Bit}
use Rattle.limits.specs.Limits.{standard}
use Rattle.vpa.specs.Automata.{Top}
use Rattle.table_spec.specs.File.{Table, records}
use Rattle.table_spec.specs.Reading.{WellFormed}
use Rattle.table_spec.specs.Language.{count, automaton}
use Rattle.tops_spec.specs.Tops.{top_named, start_words}
use Rattle.fit_spec.specs.Fit.{pair_count, pair_table}
use Rattle.fit_rounds.specs.Rows.{Holds, Named, Nexts, NextMoves, NextReturns}

-- the first k words of row v have every bit of row u's
unfoldable pub covered_in : ℕ → ℕ → ℕ → List ℕ → Bool
covered_in zero u v f = true
covered_in (suc k) u v f = elim (eqb (bit_or (get_or f (v * 10 + k) 0) (get_or f (u * 10 + k) 0)) (get_or f (v * 10 + k) 0)) [ true ↦ covered_in k u v f | false ↦ false ]

module _ (s t : Table) where
  -- o is a top of the pair u
  abbrev pub PairTop : ℕ → Option ℕ → Type 0
  PairTop = Top (automaton (pair_table s t))

  -- every top of the pair u is one of the pair v
  pub record Follows (u v : ℕ) : Type 0 where
    pub each : {o : Option ℕ} → PairTop u o → PairTop v o

  -- rows that hold tops only, and those at the start; bottom has the number of pairs
  pub record SomeTops (f : List ℕ) : Type 0 where
    pub words : List ℕ
    pub holds : Holds f words
    pub long : length words ≡ pair_count s t
    pub tops : (u x : ℕ) → Bit (get_or words u 0) x → PairTop u (top_named (pair_count s t) x)
    pub starts : (u x : ℕ) → Bit (get_or (start_words (pair_count s t) (pair_table s t)) u 0) x → Bit (get_or words u 0) x

  -- rows that hold links: bit v of row u where every top of u is one of v
  pub record Links (e : List ℕ) : Type 0 where
    pub words : List ℕ
    pub holds : Holds e words
    pub long : length words ≡ pair_count s t
    pub follow : (u v : ℕ) → Bit (get_or words u 0) v → Follows u v

  -- both
  pub record Linked (f e : List ℕ) : Type 0 where
    pub rows : SomeTops f
    pub links : Links e

  -- the tables, their counts, and of each section the first's bytes and where the second goes
  pub record Counts (k n : ℕ) : Type 0 where
    pub first : WellFormed standard s
    pub second : WellFormed standard t
    pub firsts : count s ≡ k
    pub seconds : count t ≡ n

  pub record Inner (k n : ℕ) (internals moves : List ℕ) : Type 0 where
    pub counts : Counts k n
    pub are : s.internals ≡ records 3 internals
    pub goes : NextMoves n t.internals moves

  pub record Pushing (k n : ℕ) (calls pushes : List ℕ) : Type 0 where
    pub counts : Counts k n
    pub are : s.calls ≡ records 3 calls
    pub goes : NextMoves n t.calls pushes

  pub record Popping (k n : ℕ) (returns pops : List ℕ) : Type 0 where
    pub counts : Counts k n
    pub are : s.returns ≡ records 4 returns
    pub goes : NextReturns n t.returns pops

-- rows that hold tops only still do, when v gains the tops of u, which it has too
abbrev pub FlowOn : ℕ → ℕ → List ℕ → List ℕ → Type 0
FlowOn u v f g = (s t : Table) → u < pair_count s t → v < pair_count s t → Follows s t u v → SomeTops s t f → SomeTops s t g

-- .. when v gains its top x
abbrev pub GainOn : ℕ → ℕ → List ℕ → List ℕ → Type 0
GainOn v x f g = (s t : Table) → v < pair_count s t → x < pair_count s t → PairTop s t v (some x) → SomeTops s t f → SomeTops s t g

-- .. along the links of u
abbrev pub SpreadOn : ℕ → ℕ → List ℕ → List ℕ → List ℕ → Type 0
SpreadOn u pairs e f g = (s t : Table) → pairs ≡ pair_count s t → u < pairs → Links s t e → SomeTops s t f → SomeTops s t g

-- rows that hold tops and links only still do, by a link from y to v
abbrev pub LinkOn : ℕ → ℕ → List ℕ → List ℕ → List ℕ → List ℕ → Type 0
LinkOn y v f e g h = (s t : Table) → y < pair_count s t → v < pair_count s t → Follows s t y v → Linked s t f e → Linked s t g h

-- a place where a record of w bytes may start
pub record Place (w : ℕ) (section : List ℕ) (at : ℕ) : Type 0 where
  pub index : ℕ
  pub whole : at ≡ index * w
  pub inside : at ≤ length section

-- rows that hold tops only still do, by what the calls of the pair of p and b push
abbrev pub PushesOn : ℕ → ℕ → ℕ → List ℕ → List ℕ → List ℕ → List ℕ → Type 0
PushesOn p b n calls pushes f g =
    (s t : Table) (k : ℕ) → Pushing s t k n calls pushes → (o : Option ℕ) → PairTop s t (p * (n + 1) + b) o → SomeTops s t f → SomeTops s t g

-- .. by the returns of the pair of p and b that pop its top y
abbrev pub PopsOver : ℕ → ℕ → ℕ → ℕ → List ℕ → List ℕ → List ℕ → List ℕ → List ℕ → List ℕ → Type 0
PopsOver p b y n returns pops f e g h =
    (s t : Table) (k : ℕ) → Popping s t k n returns pops → y < pair_count s t → PairTop s t (p * (n + 1) + b) (some y) → Linked s t f e → Linked s t g h

-- .. that pop any of its tops
abbrev pub PopsOn : ℕ → ℕ → ℕ → ℕ → List ℕ → List ℕ → List ℕ → List ℕ → List ℕ → List ℕ → Type 0
PopsOn p b k n returns pops f e g h = (s t : Table) → Popping s t k n returns pops → Linked s t f e → Linked s t g h

-- a place for each state
pub record Places (w : ℕ) (section places : List ℕ) : Type 0 where
  pub each : (p : ℕ) → Place w section (get_or places p 0)

-- the first's records name states and symbols, and where the second goes is a state or the number past them
pub record WorklistInput (calls returns pushes pops : List ℕ) (k n : ℕ) : Type 0 where
  pub calls-named : Named 3 24 calls
  pub returns-named : Named 4 24 returns
  pub pushes_go : Nexts n pushes
  pub pops_go : Nexts n pops
  pub few : k ≤ 24

-- .. by a look at pairs
abbrev pub LooksOn : List ℕ → List ℕ → List ℕ → List ℕ → ℕ → ℕ → List ℕ → List ℕ → List ℕ → List ℕ → Type 0
LooksOn calls returns pushes pops k n f e g h =
    (s t : Table) → Pushing s t k n calls pushes → Popping s t k n returns pops → Linked s t f e → Linked s t g h

-- rows that hold tops only still do, by the whole walk
abbrev pub AddsTops : List ℕ → List ℕ → List ℕ → List ℕ → List ℕ → List ℕ → ℕ → ℕ → List ℕ → List ℕ → Type 0
AddsTops internals calls returns moves pushes pops k n f g =
    (s t : Table) → Inner s t k n internals moves → Pushing s t k n calls pushes → Popping s t k n returns pops → SomeTops s t f → SomeTops s t g

-- links stay links, by what an internal (p, a, q) adds, and by all of them
abbrev pub LinksOn : ℕ → ℕ → ℕ → ℕ → List ℕ → List ℕ → List ℕ → Type 0
LinksOn p a q n moves e g = (s t : Table) (k : ℕ) (internals : List ℕ) → Inner s t k n internals moves → Memᴰ (p ∷ a ∷ q ∷ []) (records 3 internals) → Links s t e → Links s t g

abbrev pub AllLinks : ℕ → List ℕ → List ℕ → List ℕ → List ℕ → Type 0
AllLinks n internals moves e g = (s t : Table) (k : ℕ) → Inner s t k n internals moves → Links s t e → Links s t g

-- one of the first marks is set
pub record AnyMarked (marks : List ℕ) (pairs : ℕ) (r : Bool) : Type 0 where
  pub none : r ≡ false → (u : ℕ) → u < pairs → get_or marks u 0 ≡ 0
  pub one : r ≡ true → (u : ℕ) × (u < pairs) × (get_or marks u 0 ≢ 0)
