-- Runs of an automaton and of its quotient correspond at every step, states and whole stacks, both ways (source 000, Lemma 1), so that the
-- two accept the same words under any acceptance that the map respects (Theorem 1). Assumes nothing.
use mathlib.Core.Path.{◌≡◌, refl, sym, ◌∙◌}
use mathlib.Core.Logic.{◌↔◌}
use mathlib.Core.List.{List, [], ◌∷◌, map}
use Prim.Native.Nat.{ℕ}
use native.Mathlib.Omega.{arith}
use Rattle.vpa.specs.Automata.{Automaton, Configuration, ◌at◌, Lawful, Step, internally, calling, returning, Run, Reachable, start, next, AcceptsBy, Ended, Accepts, EndedIn, EndsIn}
use Rattle.vpa.specs.Quotients.{Raq, Joined, quotient, Corresponds, AtEveryStep, at_end, at-step, EveryStep}
use Rattle.vpa.proofs.Tops.{chain, chain_top, reachable-top, top-named, reachable-state}
use Rattle.vpa.proofs.Simulation.{trace, Simulation, steps_map, steps_swap, sim_steps, sim_accepts}
use Rattle.vpa.proofs.Equal.{Same, same-forth, same_back, sim_from, sim_to}
use Rattle.vpa.proofs.Relations.{raq_returns}

module _ {S T : Type 0} (A : Automaton S) (m : S → T) where
  -- a reachable configuration, and the one of the quotient that it corresponds to
  pub record Linked (c : Configuration S) (C : Configuration T) : Type 0 where
    pub corresponds : Corresponds A m c C
    pub reachable : Reachable A c

  -- the image of a configuration
  abbrev pub image : Configuration S → Configuration T
  image c = m c.state at map m c.stack

  pub image_path : {c : Configuration S} {C : Configuration T} → Corresponds A m c C → image c ≡ C
  image_path {c} {C} h =
      let stacks : map m c.stack ≡ C.stack = h.stacks in
      λ i. record { state = h.states i; stack = stacks i }

  -- the configurations of the class run are, one by one, the images of the input's
  pub steps-image :
      {B : Automaton T} {c d : Configuration S} {C D : Configuration T} {w : List ℕ} {r : Run A c w d} {u : Run B C w D} → AtEveryStep (Corresponds A m) r u
      → map image (trace r) ≡ trace u
  unfolding trace
  steps-image (at_end h) = λ i. image_path h i ∷ []
  steps-image (at-step h k) = λ i. image_path h i ∷ steps-image k i

  pub image_corresponds : (c : Configuration S) → Corresponds A m c (image c)
  image_corresponds c = record { states = refl; stacks = refl }

  -- a stack and its image are empty together
  pub empty-exact : (σ : List S) (ξ : List T) → map m σ ≡ ξ → σ ≡ [] ↔ ξ ≡ []
  empty-exact [] ξ e = (λ f. sym e, λ f. refl)
  empty-exact (s ∷ σ) ξ e = (λ f. let z : ◌≡◌ {A = ℕ} 0 1 = cc in absurd (omega arith), λ f. let z : ◌≡◌ {A = ℕ} 0 1 = cc in absurd (omega arith))

  -- ---- a run of the input gives one of the quotient: the image. Nothing is asked of the map

  pub image-step : {c d : Configuration S} {a : ℕ} → Reachable A c → Step A c a d → Step (quotient A m) (image c) a (image d)
  unfolding quotient
  image-step h (internally r) = internally (_, _, refl, refl, r)
  image-step h (calling r) = calling (_, _, refl, refl, r)
  image-step h (returning r) = returning (_, _, _, refl, refl, refl, r, reachable-top A h)

  pub image-reachable : {c : Configuration S} → Reachable A c → Reachable (quotient A m) (image c)
  unfolding quotient
  image-reachable (start i) = start (_, refl, i)
  image-reachable (next h s) = next (image-reachable h) (image-step h s)

  pub image_sim : Simulation A (quotient A m) Linked
  unfolding quotient
  image_sim = record {
    starts = λ {p} i. (m p, (p, refl, i), record { corresponds = image_corresponds _; reachable = start i });
    steps = λ h s. (_, rw (image_path h.corresponds) at (image-step h.reachable s), record { corresponds = image_corresponds _; reachable = next h.reachable s });
  }

  -- ---- a run of the quotient gives one of the input, where the map meets Definition 1

  joined : {p q : S} {P : T} → A.state p → m p ≡ P → A.state q → m q ≡ P → Joined A m p q
  joined h e k f = record { left = h; right = k; classes = e ∙ sym f }

  module _ (lawful : Lawful A) (raq : Raq A (Joined A m)) where
    lift_return :
        {P U Q : T} {a : ℕ} {ξ : List T} {q : S} (τ : List S) → (quotient A m).return P a U Q → m q ≡ P → map m τ ≡ U ∷ ξ → Reachable A (q at τ)
        → (d : Configuration S) × Step A (q at τ) a d × Linked d (Q at ξ)
    unfolding quotient
    lift_return [] r e f h = let z : ◌≡◌ {A = ℕ} 0 1 = cc in absurd (omega arith)
    lift_return (u ∷ τ) (p, s, p', ep, es, ep', r, k) e f h =
        let t = chain_top A (chain A h) in
        let n = lawful.returns r in
        let g = raq_returns A (Joined A m) raq (joined n.0 ep (reachable-state A lawful h) e) (joined n.1 es (top-named A lawful t) (cc)) k (reachable-top A h) r in
        let l = g.2.classes in
        (_, returning g.1, record { corresponds = record { states = sym l ∙ ep'; stacks = cc }; reachable = next h (returning g.1) })

    lift_step : {C D : Configuration T} {c : Configuration S} {a : ℕ} → Step (quotient A m) C a D → Linked c C → (d : Configuration S) × Step A c a d × Linked d D
    unfolding quotient
    lift_step (internally (p, p', ep, ep', r)) h =
        let g = (raq.internals (joined (lawful.internals r).0 ep (reachable-state A lawful h.reachable) h.corresponds.states)).forth r in
        (_, internally g.1, record { corresponds = record { states = sym g.2.classes ∙ ep'; stacks = h.corresponds.stacks }; reachable = next h.reachable (internally g.1) })
    lift_step (calling (p, p', ep, ep', r)) h =
        let g = (raq.calls (joined (lawful.calls r).0 ep (reachable-state A lawful h.reachable) h.corresponds.states)).forth r in
        (_, calling g.1, record { corresponds = record { states = sym g.2.classes ∙ ep'; stacks = λ i. h.corresponds.states i ∷ h.corresponds.stacks i }; reachable = next h.reachable (calling g.1) })
    lift_step {c = c} (returning r) h = lift_return c.stack r h.corresponds.states h.corresponds.stacks h.reachable

    pub lift_sim : Simulation (quotient A m) A (λ C c. Linked c C)
    unfolding quotient
    lift_sim = record {
      starts = λ (p, e, i). (p, i, record { corresponds = record { states = e; stacks = refl }; reachable = start i });
      steps = λ h s. lift_step s h;
    }

  module _ (lawful : Lawful A) (raq : Raq A (Joined A m)) where
    -- ---- whole runs, corresponding at every step (Lemma 1), for any B that is the quotient

    pub every-step : {B : Automaton T} → Same B (quotient A m) → EveryStep A B m
    every-step {B} alike = record {
      members = λ i u.
          let sim = sim_from (same-forth B (quotient A m) alike) (lift_sim lawful raq) in
          let j = sim.starts i in
          let k = sim_steps B A (λ C c. Linked c C) sim u j.2 in
          (j.0, j.1, k.0, k.1, steps_map (λ c C h. h.corresponds) (steps_swap k.2));
      classes = λ i r.
          let sim = sim_to (same_back B (quotient A m) alike) image_sim in
          let j = sim.starts i in
          let k = sim_steps A B Linked sim r j.2 in
          (j.0, j.1, k.0, k.1, steps_map (λ c C h. h.corresponds) k.2);
    }

    -- ---- the same words, for any acceptance that corresponding configurations agree on

    pub quotient-exact :
        {F : Configuration S → Type 0} {G : Configuration T → Type 0}
        → ((c : Configuration S) (C : Configuration T) → Reachable A c → Corresponds A m c C → F c ↔ G C) → (w : List ℕ)
        → AcceptsBy A F w ↔ AcceptsBy (quotient A m) G w
    quotient-exact f w = (
      sim_accepts A (quotient A m) Linked image_sim (λ c C h. (f c C h.reachable h.corresponds).0),
      sim_accepts (quotient A m) A (λ C c. Linked c C) (lift_sim lawful raq) (λ C c h. (f c C h.reachable h.corresponds).1),
    )

    pub accepting-exact : (c : Configuration S) (C : Configuration T) → Reachable A c → Corresponds A m c C → A.accepting c.state ↔ (quotient A m).accepting C.state
    unfolding quotient
    accepting-exact c C h e = (
      λ k. (c.state, e.states, k),
      λ (p, f, k). (raq.accepting (joined (lawful.finally k) f (reachable-state A lawful h) e.states)).0 k,
    )

    pub ended-exact : (c : Configuration S) (C : Configuration T) → Reachable A c → Corresponds A m c C → Ended A c ↔ Ended (quotient A m) C
    ended-exact c C h e =
        let a = accepting-exact c C h e in
        let n = empty-exact c.stack C.stack e.stacks in
        (λ k. record { accepting = a.0 k.accepting; empty = n.0 k.empty }, λ k. record { accepting = a.1 k.accepting; empty = n.1 k.empty })

    -- Theorem 1, of words that end on the empty stack
    pub quotient-words : (w : List ℕ) → Accepts A w ↔ Accepts (quotient A m) w
    quotient-words = quotient-exact ended-exact

    mark-exact : (k : ℕ) (c : Configuration S) (C : Configuration T) → Reachable A c → Corresponds A m c C → A.mark c.state k ↔ (quotient A m).mark C.state k
    unfolding quotient
    mark-exact k c C h e = (
      λ i. (c.state, e.states, i),
      λ (p, f, i). (raq.marks (joined (lawful.marked i) f (reachable-state A lawful h) e.states)).0 i,
    )

    ended_in_exact : (k : ℕ) (c : Configuration S) (C : Configuration T) → Reachable A c → Corresponds A m c C → EndedIn A k c ↔ EndedIn (quotient A m) k C
    ended_in_exact k c C h e =
        let a = mark-exact k c C h e in
        let n = empty-exact c.stack C.stack e.stacks in
        (λ i. record { mark = a.0 i.mark; closed = n.0 i.closed }, λ i. record { mark = a.1 i.mark; closed = n.1 i.closed })

    -- request (v), of words that end on the empty stack in a state of a mark
    pub quotient-marks : (k : ℕ) (w : List ℕ) → EndsIn A k w ↔ EndsIn (quotient A m) k w
    quotient-marks k = quotient-exact (ended_in_exact k)

  -- the quotient names states only
  pub quotient_lawful : Lawful A → Lawful (quotient A m)
  unfolding quotient
  quotient_lawful lawful = record {
    initially = λ (p, e, i). (p, e, lawful.initially i);
    finally = λ (p, e, i). (p, e, lawful.finally i);
    marked = λ (p, e, i). (p, e, lawful.marked i);
    internals = λ (p, q, e, f, r). ((p, e, (lawful.internals r).0), (q, f, (lawful.internals r).1));
    calls = λ (p, q, e, f, r). ((p, e, (lawful.calls r).0), (q, f, (lawful.calls r).1));
    returns = λ (p, s, q, e, f, g, r, k). ((p, e, (lawful.returns r).0), (s, f, (lawful.returns r).1), (q, g, (lawful.returns r).2));
  }
