-- Two automata whose states, marks and moves are the same ones have the same runs, tops and words. Assumes nothing.
use mathlib.Core.Path.{◌≡◌, refl}
use mathlib.Core.Logic.{◌↔◌}
use mathlib.Core.List.{List}
use mathlib.Core.Option.{Option}
use Prim.Native.Nat.{ℕ}
use Rattle.vpa.specs.Automata.{Automaton, Configuration, Step, internally, calling, returning, Reachable, start, next, Tops, AcceptsBy, Accepts, EndsIn}
use Rattle.vpa.proofs.Simulation.{Simulation, sim_accepts}

-- what A has, B has
pub record PartOf {S : Type 0} (A B : Automaton S) : Type 0 where
  pub initially : {q : S} → A.initial q → B.initial q
  pub internals : {q q' : S} {a : ℕ} → A.internal q a q' → B.internal q a q'
  pub calls : {q q' : S} {a : ℕ} → A.call q a q' → B.call q a q'
  pub returns : {q s q' : S} {a : ℕ} → A.return q a s q' → B.return q a s q'

-- the same initial and accepting states, the same marks and the same moves
pub record Same {S : Type 0} (A B : Automaton S) : Type 0 where
  pub initially : (q : S) → A.initial q ↔ B.initial q
  pub finally : (q : S) → A.accepting q ↔ B.accepting q
  pub marked : (q : S) (k : ℕ) → A.mark q k ↔ B.mark q k
  pub internals : (q : S) (a : ℕ) (q' : S) → A.internal q a q' ↔ B.internal q a q'
  pub calls : (q : S) (a : ℕ) (q' : S) → A.call q a q' ↔ B.call q a q'
  pub returns : (q : S) (a : ℕ) (s q' : S) → A.return q a s q' ↔ B.return q a s q'

module _ {S : Type 0} (A B : Automaton S) where
  pub same-forth : Same A B → PartOf A B
  same-forth h = record {
    initially = λ {q} i. (h.initially q).0 i;
    internals = λ {q} {q'} {a} r. (h.internals q a q').0 r;
    calls = λ {q} {q'} {a} r. (h.calls q a q').0 r;
    returns = λ {q} {s} {q'} {a} r. (h.returns q a s q').0 r;
  }

  pub same_back : Same A B → PartOf B A
  same_back h = record {
    initially = λ {q} i. (h.initially q).1 i;
    internals = λ {q} {q'} {a} r. (h.internals q a q').1 r;
    calls = λ {q} {q'} {a} r. (h.calls q a q').1 r;
    returns = λ {q} {s} {q'} {a} r. (h.returns q a s q').1 r;
  }

module _ {S : Type 0} {A B : Automaton S} (within : PartOf A B) where
  pub within_step : {c d : Configuration S} {a : ℕ} → Step A c a d → Step B c a d
  within_step (internally r) = internally (within.internals r)
  within_step (calling r) = calling (within.calls r)
  within_step (returning r) = returning (within.returns r)

  pub within-reachable : {c : Configuration S} → Reachable A c → Reachable B c
  within-reachable (start i) = start (within.initially i)
  within-reachable (next h s) = next (within-reachable h) (within_step s)

  pub within-tops : {q : S} {t : Option S} → Tops A q t → Tops B q t
  within-tops h = record { stack = h.stack; topmost = h.topmost; reachable = within-reachable h.reachable }

  -- who follows B follows A, and who is followed by A is followed by B
  pub sim_from : {T : Type 0} {C : Automaton T} {R : Configuration S → Configuration T → Type 0} → Simulation B C R → Simulation A C R
  sim_from sim = record { starts = λ i. sim.starts (within.initially i); steps = λ h s. sim.steps h (within_step s) }

  pub sim_to : {T : Type 0} {C : Automaton T} {R : Configuration T → Configuration S → Type 0} → Simulation C A R → Simulation C B R
  sim_to sim = record {
    starts = λ i. let k = sim.starts i in (k.0, within.initially k.1, k.2);
    steps = λ h s. let k = sim.steps h s in (k.0, within_step k.1, k.2);
  }

  within_sim : Simulation A B (λ c d. c ≡ d)
  within_sim = record {
    starts = λ {p} i. (p, within.initially i, refl);
    steps = λ {c} {d} {C} {a} e s. (d, rw e at (within_step s), refl);
  }

  pub within_accepts : {F G : Configuration S → Type 0} → ((c : Configuration S) → F c → G c) → {w : List ℕ} → AcceptsBy A F w → AcceptsBy B G w
  within_accepts {F} {G} f = sim_accepts A B (λ c d. c ≡ d) within_sim (λ c d e h. rw e at (f c h))

module _ {S : Type 0} {A B : Automaton S} (alike : Same A B) where
  pub same-tops : {q : S} {t : Option S} → Tops A q t ↔ Tops B q t
  same-tops = (within-tops (same-forth A B alike), within-tops (same_back A B alike))

  -- the same words, for any acceptance
  pub same_accepts : {F G : Configuration S → Type 0} → ((c : Configuration S) → F c ↔ G c) → (w : List ℕ) → AcceptsBy A F w ↔ AcceptsBy B G w
  same_accepts f w = (within_accepts (same-forth A B alike) (λ c. (f c).0), within_accepts (same_back A B alike) (λ c. (f c).1))

  pub same-words : (w : List ℕ) → Accepts A w ↔ Accepts B w
  same-words = same_accepts (λ c. (
    λ h. record { accepting = (alike.finally c.state).0 h.accepting; empty = h.empty },
    λ h. record { accepting = (alike.finally c.state).1 h.accepting; empty = h.empty },
  ))

  -- the same words that end in a state of a mark
  pub same-marks : (k : ℕ) (w : List ℕ) → EndsIn A k w ↔ EndsIn B k w
  same-marks k = same_accepts (λ c. (
    λ h. record { mark = (alike.marked c.state k).0 h.mark; closed = h.closed },
    λ h. record { mark = (alike.marked c.state k).1 h.mark; closed = h.closed },
  ))
