-- A step of the search as a relation: what it has found, and where it goes; and what every step keeps holds of the outcome.
-- Assumes nothing.
use mathlib.Core.Path.{◌≡◌, refl, ap, ◌∙◌}
use mathlib.Core.Logic.{◌≢◌}
use mathlib.Core.Bool.{Bool, true, false}
use mathlib.Core.List.{List, [], ◌∷◌}
use mathlib.Core.Option.{Option, none, some}
use Prim.Native.Nat.{ℕ, zero, suc, ◌+◌, ◌-◌, ◌/◌, ◌%◌, ◌<◌}
use native.Mathlib.Omega.{arith}
use lib.ListN.{length, set}
use lib.Dec.{eqb}
use borrow.Author.Tests.{eqb-true, eqb-false}
use Rattle.cnf.specs.Clauses.{value_of}
use Rattle.cnf.specs.Search.{Seen, broken, forcing, quiet, scan, lowest_unset, State, Next, goes, ends, Outcome, solved, none_exists, spent, unfinished, Guess, undo, decide, act, step, run}
use Rattle.cnf.specs.Closing.{Found}
use Rattle.cnf.proofs.Found.{scan-found, LowestUnset, lowest_is}

abbrev pub state_of : List ℕ → List Guess → ℕ → State
state_of v gs k = record { values = v; guesses = gs; made = k }

abbrev pub guess_of : List ℕ → ℕ → Guess
guess_of v x = record { values = v; variable = x }

-- the six ways of a step, in the document's order: (a) twice, (b), (c), (d), (e)
pub data StepsTo (cs : List (List ℕ)) (b : ℕ) : State → Next → Type 0 where
  fails : {v : List ℕ} {k : ℕ} → Found v cs broken → StepsTo cs b (state_of v [] k) (ends (none_exists k))
  undoes : {v u : List ℕ} {x : ℕ} {gs : List Guess} {k : ℕ} → Found v cs broken → StepsTo cs b (state_of v (guess_of u x ∷ gs) k) (goes (state_of (set u x 0) gs k))
  forces : {v : List ℕ} {gs : List Guess} {k : ℕ} (l : ℕ) → Found v cs (forcing l) → StepsTo cs b (state_of v gs k) (goes (state_of (set v (l / 2) (1 - l % 2)) gs k))
  solves : {v : List ℕ} {gs : List Guess} {k : ℕ} → Found v cs quiet → ((j : ℕ) → j < length v → value_of v j ≢ 2) → StepsTo cs b (state_of v gs k) (ends (solved v k))
  spends : {v : List ℕ} {gs : List Guess} {k : ℕ} (x : ℕ) → Found v cs quiet → x < length v → value_of v x ≡ 2 → k ≡ b → StepsTo cs b (state_of v gs k) (ends (spent k))
  adds_guess :
      {v : List ℕ} {gs : List Guess} {k : ℕ} (x : ℕ) → Found v cs quiet → x < length v → value_of v x ≡ 2 → k ≢ b
      → StepsTo cs b (state_of v gs k) (goes (state_of (set v x 1) (guess_of v x ∷ gs) (k + 1)))

module _ (cs : List (List ℕ)) (b : ℕ) where
  decide-steps : (v : List ℕ) (gs : List Guess) (k : ℕ) → Found v cs quiet → (o : Option ℕ) → LowestUnset v 0 o → StepsTo cs b (state_of v gs k) (decide b (state_of v gs k) o)
  unfolding decide
  decide-steps v gs k q none h = solves q h
  decide-steps v gs k q (some x) h = go (eqb k b) refl
    where
      same : x ≡ h.0
      same = omega arith

      below : x < length v
      below = omega arith

      go : (t : Bool) → eqb k b ≡ t → StepsTo cs b (state_of v gs k) (elim t [ true ↦ ends (spent k) | false ↦ goes (state_of (set v x 1) (guess_of v x ∷ gs) (k + 1)) ])
      go true e = spends x q below (ap (value_of v) same ∙ h.3) (eqb-true _ _ e)
      go false e = adds_guess x q below (ap (value_of v) same ∙ h.3) (eqb-false _ _ e)

  act-steps : (v : List ℕ) (gs : List Guess) (k : ℕ) (s : Seen) → Found v cs s → StepsTo cs b (state_of v gs k) (act b (state_of v gs k) s)
  unfolding act undo
  act-steps v [] k broken f = fails f
  act-steps v (g ∷ gs) k broken f = undoes f
  act-steps v gs k (forcing l) f = forces l f
  act-steps v gs k quiet f = decide-steps v gs k f (lowest_unset v 0) (lowest_is v 0)

  pub steps : (s : State) → StepsTo cs b s (step cs b s)
  unfolding step
  steps s = act-steps s.values s.guesses s.made (scan s.values cs) (scan-found s.values cs)

-- ---- what holds of a state and is kept by each step holds of the outcome

-- P of the state that a step goes to, or Q of the outcome that it ends with
abbrev pub After : (State → Type 0) → (Outcome → Type 0) → Next → Type 0
After P Q (goes s) = P s
After P Q (ends o) = Q o

module _ (P : State → Type 0) (Q : Outcome → Type 0) (cs : List (List ℕ)) (b : ℕ) (kept : (s : State) (t : Next) → StepsTo cs b s t → P s → After P Q t) (never : Q unfinished) where
  pub run-keeps : (k : ℕ) (t : Next) → After P Q t → Q (run k cs b t)
  unfolding run
  run-keeps zero (goes s) h = never
  run-keeps zero (ends o) h = h
  run-keeps (suc k) (goes s) h = run-keeps k (step cs b s) (kept s (step cs b s) (steps cs b s) h)
  run-keeps (suc k) (ends o) h = h
