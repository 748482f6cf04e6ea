-- One automaton does what the other does. Assumes nothing.
use mathlib.Core.List.{List, [], ◌∷◌}
use Prim.Native.Nat.{ℕ}
use Rattle.vpa.specs.Automata.{Automaton, Configuration, ◌at◌, Step, Run, done, then, AcceptsBy}
use Rattle.vpa.specs.Quotients.{AtEveryStep, at_end, at-step}

-- a run's configurations, before its first symbol and after each
unfoldable pub trace : {S : Type 0} {A : Automaton S} {c d : Configuration S} {w : List ℕ} → Run A c w d → List (Configuration S)
trace {c} (done) = c ∷ []
trace {c} (then s r) = c ∷ trace r

module _ {S T : Type 0} {A : Automaton S} {B : Automaton T} where
  -- what holds at every step holds at the start and at the end
  pub steps_first : {R : Configuration S → Configuration T → Type 0} {c d : Configuration S} {C D : Configuration T} {w : List ℕ} {r : Run A c w d} {u : Run B C w D} → AtEveryStep R r u → R c C
  steps_first (at_end h) = h
  steps_first (at-step h k) = h

  pub steps-last : {R : Configuration S → Configuration T → Type 0} {c d : Configuration S} {C D : Configuration T} {w : List ℕ} {r : Run A c w d} {u : Run B C w D} → AtEveryStep R r u → R d D
  steps-last (at_end h) = h
  steps-last (at-step h k) = steps-last k

  -- a weaker relation, and the other side first
  pub steps_map : {R Q : Configuration S → Configuration T → Type 0} → ((c : Configuration S) (C : Configuration T) → R c C → Q c C)
      → {c d : Configuration S} {C D : Configuration T} {w : List ℕ} {r : Run A c w d} {u : Run B C w D} → AtEveryStep R r u → AtEveryStep Q r u
  steps_map f (at_end h) = at_end (f _ _ h)
  steps_map f (at-step h k) = at-step (f _ _ h) (steps_map f k)

  pub steps_swap :
      {R : Configuration S → Configuration T → Type 0} {c d : Configuration S} {C D : Configuration T} {w : List ℕ} {r : Run A c w d} {u : Run B C w D}
      → AtEveryStep R r u → AtEveryStep (λ C c. R c C) u r
  steps_swap (at_end h) = at_end h
  steps_swap (at-step h k) = at-step h (steps_swap k)

module _ {S T : Type 0} (A : Automaton S) (B : Automaton T) (R : Configuration S → Configuration T → Type 0) where
  -- from related configurations B follows each step of A, and remains related
  pub record Simulation : Type 0 where
    pub starts : {p : S} → A.initial p → (q : T) × B.initial q × R (p at []) (q at [])
    pub steps : {c d : Configuration S} {C : Configuration T} {a : ℕ} → R c C → Step A c a d → (D : Configuration T) × Step B C a D × R d D

  -- B follows a whole run, step by step
  pub sim_steps : Simulation → {c d : Configuration S} {C : Configuration T} {w : List ℕ} (r : Run A c w d) → R c C → (D : Configuration T) × (u : Run B C w D) × AtEveryStep R r u
  sim_steps sim (done) h = (_, done, at_end h)
  sim_steps sim (then s r) h =
      let k = sim.steps h s in
      let l = sim_steps sim r k.2 in
      (l.0, then k.1 l.1, at-step h l.2)

  -- a word that A accepts by F is accepted by B by G, where G holds whenever F holds of a related configuration
  pub sim_accepts :
      Simulation → {F : Configuration S → Type 0} {G : Configuration T → Type 0} → ((c : Configuration S) (C : Configuration T) → R c C → F c → G C)
      → {w : List ℕ} → AcceptsBy A F w → AcceptsBy B G w
  sim_accepts sim ends h =
      let i = sim.starts h.initially in
      let k = sim_steps sim h.run i.2 in
      record { first = i.0; last = k.0; initially = i.1; run = k.1; finally = ends h.last k.0 (steps-last k.2) h.finally }
