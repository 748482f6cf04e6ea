-- The tops that the four rules give are those of the reachable configurations, and what the stack of a reachable configuration looks like
-- (source 000, Sect. 2.2). Assumes nothing.
use mathlib.Core.Path.{◌≡◌, refl}
use mathlib.Core.Logic.{◌↔◌}
use mathlib.Core.List.{List, [], ◌∷◌}
use mathlib.Core.Option.{Option, none, some}
use Prim.Native.Nat.{ℕ}
use Rattle.vpa.specs.Automata.{Automaton, Configuration, ◌at◌, top, Lawful, Step, internally, calling, returning, Reachable, start, next, Tops, Top, bottom, along, pushed, popped}

module _ {S : Type 0} (A : Automaton S) where
  -- each level of the stack is a top of the state above it, and the last has bottom
  pub data Chain : S → List S → Type 0 where
    floor : {q : S} → Top A q none → Chain q []
    above : {q s : S} {σ : List S} → Top A q (some s) → Chain s σ → Chain q (s ∷ σ)

  pub chain_top : {q : S} {σ : List S} → Chain q σ → Top A q (top σ)
  chain_top (floor h) = h
  chain_top (above h k) = h

  pub chain_below : {q s : S} {σ : List S} → Chain q (s ∷ σ) → Chain s σ
  chain_below (above h k) = k

  pub chain_step : {c d : Configuration S} {a : ℕ} → Step A c a d → Chain c.state c.stack → Chain d.state d.stack
  chain_step (internally r) (floor h) = floor (along r h)
  chain_step (internally r) (above h k) = above (along r h) k
  chain_step (calling r) h = above (pushed r (chain_top h)) h
  chain_step (returning r) (above h (floor k)) = floor (popped r h k)
  chain_step (returning r) (above h (above k l)) = above (popped r h k) l

  -- a reachable configuration is chained
  pub chain : {c : Configuration S} → Reachable A c → Chain c.state c.stack
  chain (start i) = floor (bottom i)
  chain (next h s) = chain_step s (chain h)

  -- what a top says of runs: bottom is reached, and a state s may stand on any stack that s itself is reached with
  abbrev Lifts : S → Option S → Type 0
  Lifts q none = Reachable A (q at [])
  Lifts q (some s) = ((σ : List S) × Reachable A (s at σ)) × ((τ : List S) → Reachable A (s at τ) → Reachable A (q at (s ∷ τ)))

  any-stack : {q : S} (t : Option S) → Lifts q t → (σ : List S) × (top σ ≡ t) × Reachable A (q at σ)
  any-stack none h = ([], refl, h)
  any-stack (some s) h = (s ∷ h.0.0, refl, h.1 h.0.0 h.0.1)

  lifts_internal : {q q' : S} {a : ℕ} (t : Option S) → A.internal q a q' → Lifts q t → Lifts q' t
  lifts_internal none r h = next h (internally r)
  lifts_internal (some s) r h = (h.0, λ τ k. next (h.1 τ k) (internally r))

  lifts_return : {q s q' : S} {a : ℕ} (t : Option S) → A.return q a s q' → Lifts q (some s) → Lifts s t → Lifts q' t
  lifts_return none r h k = next (h.1 [] k) (returning r)
  lifts_return (some u) r h k = (k.0, λ τ l. next (h.1 (u ∷ τ) (k.1 τ l)) (returning r))

  lifts : {q : S} {t : Option S} → Top A q t → Lifts q t
  lifts (bottom i) = start i
  lifts (along {t = t} r h) = lifts_internal t r (lifts h)
  lifts (pushed {t = t} r h) = let k = any-stack t (lifts h) in ((k.0, k.2), λ τ l. next l (calling r))
  lifts (popped {t = t} r h k) = lifts_return t r (lifts h) (lifts k)

  -- the least sets that the rules give are the tops of the reachable configurations
  pub tops_of_lem : {q : S} {t : Option S} → Top A q t → Tops A q t
  tops_of_lem {t = t} h = let k = any-stack t (lifts h) in record { stack = k.0; topmost = k.1; reachable = k.2 }

  pub top_of : {q : S} {t : Option S} → Tops A q t → Top A q t
  top_of h = rw h.topmost at (chain_top (chain h.reachable))

  pub top-exact : {q : S} {t : Option S} → Top A q t ↔ Tops A q t
  top-exact = (tops_of_lem, top_of)

  -- a chained configuration is reachable
  pub chain_reachable : {q : S} {σ : List S} → Chain q σ → Reachable A (q at σ)
  chain_reachable (floor h) = lifts h
  chain_reachable (above {σ = σ} h k) = (lifts h).1 σ (chain_reachable k)

  -- the topmost symbol of a reachable configuration
  pub reachable-top : {q : S} {σ : List S} → Reachable A (q at σ) → Tops A q (top σ)
  reachable-top {σ = σ} h = record { stack = σ; topmost = refl; reachable = h }

  -- below a reachable configuration is one, and its stack may change for another that is reached with the same top
  pub reachable-below : {q s : S} {σ : List S} → Reachable A (q at (s ∷ σ)) → Reachable A (s at σ)
  reachable-below h = chain_reachable (chain_below (chain h))

  pub reachable-over : {q s : S} {σ τ : List S} → Reachable A (q at (s ∷ σ)) → Reachable A (s at τ) → Reachable A (q at (s ∷ τ))
  reachable-over {τ = τ} h k = (lifts (chain_top (chain h))).1 τ k

  -- what has a top is a state, and its top is one
  module _ (lawful : Lawful A) where
    pub top-state : {q : S} {t : Option S} → Top A q t → A.state q
    top-state (bottom i) = lawful.initially i
    top-state (along r h) = (lawful.internals r).1
    top-state (pushed r h) = (lawful.calls r).1
    top-state (popped r h k) = (lawful.returns r).2

    abbrev Named : Option S → Type 0
    Named none = Unit {0}
    Named (some s) = A.state s

    named : {q : S} {t : Option S} → Top A q t → Named t
    named (bottom i) = tt
    named (along r h) = named h
    named (pushed r h) = (lawful.calls r).0
    named (popped r h k) = named k

    pub top-named : {q s : S} → Top A q (some s) → A.state s
    top-named h = named h

    pub reachable-state : {c : Configuration S} → Reachable A c → A.state c.state
    reachable-state h = top-state (chain_top (chain h))
