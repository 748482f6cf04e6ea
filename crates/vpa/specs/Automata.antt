-- Visibly pushdown automata over any type of states, given by relations: configurations, steps, runs, reachable stack tops, accepted words
-- (source 000, Sect. 2; document 01, "Runs and reachable tops"; document 02, (iv) and (v)). Assumes nothing.
use Rattle.std.specs.Prelude.{◌≡◌, List, [], ◌∷◌, ℕ, zero, suc, ◌-◌}
use Rattle.std.proofs.Math.Option.{Option, none, some}

-- source 000, Sect. 2.1: the states Q, the initial and the accepting ones, and the internal, call and return transitions; symbols are numbers.
-- Request (v) adds the states of each mark
pub record Automaton (S : Type 0) : Type 1 where
  pub state : S → Type 0
  pub initial : S → Type 0
  pub accepting : S → Type 0
  pub mark : S → ℕ → Type 0
  pub internal : S → ℕ → S → Type 0
  pub call : S → ℕ → S → Type 0
  pub return : S → ℕ → S → S → Type 0

-- "A configuration is a state and a stack": the topmost stack symbol first
pub record Configuration (S : Type 0) : Type 0 where
  pub state : S
  pub stack : List S

infix 60 ◌at◌
abbrev pub ◌at◌ : {S : Type 0} → S → List S → Configuration S
q at σ = record { state = q; stack = σ }

-- source 000, Sect. 2.2, top: the topmost stack symbol, `none` for the bottom
abbrev pub top : {S : Type 0} → List S → Option S
top [] = none
top (s ∷ σ) = some s

module _ {S : Type 0} (A : Automaton S) where
  -- Δ, Q₀, F and the marks name states only
  pub record Lawful : Type 0 where
    pub initially : {q : S} → A.initial q → A.state q
    pub finally : {q : S} → A.accepting q → A.state q
    pub marked : {q : S} {k : ℕ} → A.mark q k → A.state q
    pub internals : {q q' : S} {a : ℕ} → A.internal q a q' → A.state q × A.state q'
    pub calls : {q q' : S} {a : ℕ} → A.call q a q' → A.state q × A.state q'
    pub returns : {q s q' : S} {a : ℕ} → A.return q a s q' → A.state q × A.state s × A.state q'

  -- "An internal moves by an internal record. A call moves and pushes the state it left. A return pops state s and moves by a record
  -- naming s. A return on the empty stack has no move."
  pub data Step : Configuration S → ℕ → Configuration S → Type 0 where
    internally : {q q' : S} {a : ℕ} {σ : List S} → A.internal q a q' → Step (q at σ) a (q' at σ)
    calling : {q q' : S} {a : ℕ} {σ : List S} → A.call q a q' → Step (q at σ) a (q' at (q ∷ σ))
    returning : {q s q' : S} {a : ℕ} {σ : List S} → A.return q a s q' → Step (q at (s ∷ σ)) a (q' at σ)

  -- "A word is a list of symbol numbers, perhaps empty": the run over all of it
  pub data Run : Configuration S → List ℕ → Configuration S → Type 0 where
    done : {c : Configuration S} → Run c [] c
    then : {c d e : Configuration S} {a : ℕ} {w : List ℕ} → Step c a d → Run d w e → Run c (a ∷ w) e

  -- "A run starts in an initial state on the empty stack": what some run reaches
  pub data Reachable : Configuration S → Type 0 where
    start : {q : S} → A.initial q → Reachable (q at [])
    next : {c d : Configuration S} {a : ℕ} → Reachable c → Step c a d → Reachable d

  -- "tops(q) holds t when some reachable configuration has state q and t topmost; bottom is a top too"
  pub record Tops (q : S) (t : Option S) : Type 0 where
    pub stack : List S
    pub topmost : top stack ≡ t
    pub reachable : Reachable (q at stack)

  -- source 000, Sect. 2.2: the least sets that the four rules give
  pub data Top : S → Option S → Type 0 where
    bottom : {q : S} → A.initial q → Top q none
    along : {q q' : S} {a : ℕ} {t : Option S} → A.internal q a q' → Top q t → Top q' t
    pushed : {q q' : S} {a : ℕ} {t : Option S} → A.call q a q' → Top q t → Top q' (some q)
    popped : {q s q' : S} {a : ℕ} {t : Option S} → A.return q a s q' → Top q (some s) → Top s t → Top q' t

  -- some run over all of the word ends in a configuration that meets F
  pub record AcceptsBy (F : Configuration S → Type 0) (w : List ℕ) : Type 0 where
    pub first : S
    pub last : Configuration S
    pub initially : A.initial first
    pub run : Run (first at []) w last
    pub finally : F last

  -- "an accepting state on the empty stack"
  pub record Ended (c : Configuration S) : Type 0 where
    pub accepting : A.accepting c.state
    pub empty : c.stack ≡ []

  -- request (iv): "A word is now accepted when some run ends in an accepting state on the empty stack."
  abbrev pub Accepts : List ℕ → Type 0
  Accepts = AcceptsBy Ended

  -- "on the empty stack in a state of that mark", accepting or not
  pub record EndedIn (k : ℕ) (c : Configuration S) : Type 0 where
    pub mark : A.mark c.state k
    pub closed : c.stack ≡ []

  -- request (v): the words with a run that ends so
  abbrev pub EndsIn : ℕ → List ℕ → Type 0
  EndsIn k = AcceptsBy (EndedIn k)

-- how many calls are open after a symbol where n were before it, by the symbol's kind, "0 internal, 1 call, 2 return": a call opens, a return
-- closes the latest that is open, and where none is open it closes nothing
unfoldable pub open_behind : ℕ → ℕ → ℕ
open_behind zero n = n
open_behind (suc zero) n = suc n
open_behind (suc (suc k)) n = n - 1

-- how many are open after a word, where n were before it and kind gives each symbol's kind
unfoldable pub open_after : (ℕ → ℕ) → ℕ → List ℕ → ℕ
open_after kind n [] = n
open_after kind n (a ∷ w) = open_after kind (open_behind (kind a) n) w
