-- An automaton whose states pair those of A with those of B, B being completed by a sink: which of its states are reached on the empty stack
-- tells whether B accepts every word of A. A may be nondeterministic, B has one initial state and at most one target for a move. Assumes nothing.
use mathlib.Core.Path.{◌≡◌, refl, sym, ap, ◌∙◌, subst}
use mathlib.Core.Logic.{◌↔◌, ◌⊎◌, inl, inr}
use mathlib.Core.List.{List, [], ◌∷◌, ◌++◌, map}
use mathlib.Core.Option.{none}
use Prim.Native.Nat.{ℕ}
use native.Mathlib.Omega.{arith}
use Rattle.vpa.specs.Automata.{Automaton, Configuration, ◌at◌, top, Step, internally, calling, returning, Run, done, then, Reachable, start, next, Tops, Accepts}
use Rattle.vpa.specs.Quotients.{Corresponds}
use Rattle.vpa.proofs.Simulation.{Simulation, steps-last, sim_steps}

-- ---- what is asked

-- every word of A is one of B
abbrev pub WordsWithin : {S T : Type 0} → Automaton S → Automaton T → Type 0
WordsWithin A B = (w : List ℕ) → Accepts A w → Accepts B w

-- each symbol is of one kind: 0 internal, 1 call, 2 return
pub record Visibly {S : Type 0} (kind : ℕ → ℕ) (A : Automaton S) : Type 0 where
  pub internals : {q q' : S} {a : ℕ} → A.internal q a q' → kind a ≡ 0
  pub calls : {q q' : S} {a : ℕ} → A.call q a q' → kind a ≡ 1
  pub returns : {q s q' : S} {a : ℕ} → A.return q a s q' → kind a ≡ 2

-- "one initial state and at most one target for a move"
pub record Deterministic {S : Type 0} (A : Automaton S) : Type 0 where
  pub initially : {p q : S} → A.initial p → A.initial q → p ≡ q
  pub internals : {q x y : S} {a : ℕ} → A.internal q a x → A.internal q a y → x ≡ y
  pub calls : {q x y : S} {a : ℕ} → A.call q a x → A.call q a y → x ≡ y
  pub returns : {q s x y : S} {a : ℕ} → A.return q a s x → A.return q a s y → x ≡ y

-- a state with no moves that does not accept
pub record Dead {S : Type 0} (A : Automaton S) (sink : S) : Type 0 where
  pub accepting : ¬ A.accepting sink
  pub internals : {a : ℕ} {q : S} → ¬ A.internal sink a q
  pub calls : {a : ℕ} {q : S} → ¬ A.call sink a q
  pub returns : {a : ℕ} {s q : S} → ¬ A.return sink a s q

-- a target, or the sink where there is none
pub data After {T : Type 0} (sink : T) (f : T → Type 0) : T → Type 0 where
  moved : {b : T} → f b → After sink f b
  stuck : {b : T} → ((x : T) → ¬ f x) → b ≡ sink → After sink f b

-- C pairs A with B
pub record Paired {S T U : Type 0} (A : Automaton S) (B : Automaton T) (C : Automaton U) (first : U → S) (second : U → T) (sink : T) : Type 0 where
  pub starts : {p : S} → A.initial p → (u : U) × C.initial u × (first u ≡ p)
  pub initially : {u : U} → C.initial u → A.initial (first u) × B.initial (second u)
  pub internals : {u v : U} {a : ℕ} → C.internal u a v → A.internal (first u) a (first v) × After sink (B.internal (second u) a) (second v)
  pub calls : {u v : U} {a : ℕ} → C.call u a v → A.call (first u) a (first v) × After sink (B.call (second u) a) (second v)
  pub returns : {u s v : U} {a : ℕ} → C.return u a s v → A.return (first u) a (first s) (first v) × After sink (B.return (second u) a (second s)) (second v)
  pub internals_on : {u : U} {q : S} {a : ℕ} → A.internal (first u) a q → (v : U) × C.internal u a v × (first v ≡ q)
  pub calls_on : {u : U} {q : S} {a : ℕ} → A.call (first u) a q → (v : U) × C.call u a v × (first v ≡ q)
  pub returns_on : {u s : U} {q : S} {a : ℕ} → A.return (first u) a (first s) q → (v : U) × C.return u a s v × (first v ≡ q)

-- ---- runs and what is reachable

module _ {S : Type 0} (A : Automaton S) where
  pub run-reachable : {c d : Configuration S} {w : List ℕ} → Reachable A c → Run A c w d → Reachable A d
  run-reachable h (done) = h
  run-reachable h (then s r) = run-reachable (next h s) r

  run-snoc : {c d e : Configuration S} {a : ℕ} {w : List ℕ} → Run A c w d → Step A d a e → Run A c (w ++ (a ∷ [])) e
  run-snoc (done) s = then s (done)
  run-snoc (then t r) s = then t (run-snoc r s)

  pub reachable-run : {c : Configuration S} → Reachable A c → (q : S) × (w : List ℕ) × A.initial q × Run A (q at []) w c
  reachable-run (start {q = q} i) = (q, [], i, done)
  reachable-run (next h s) = let k = reachable-run h in (k.0, _, k.2, run-snoc k.3 s)

no_top : {S : Type 0} (σ : List S) → top σ ≡ none → σ ≡ []
no_top [] e = refl
no_top (s ∷ σ) e = let z : ◌≡◌ {A = ℕ} 0 1 = cc in absurd (omega arith)

no_image : {S T : Type 0} (f : S → T) (σ : List S) → map f σ ≡ [] → σ ≡ []
no_image f [] e = refl
no_image f (s ∷ σ) e = let z : ◌≡◌ {A = ℕ} 0 1 = cc in absurd (omega arith)

module _ {S T U : Type 0} {A : Automaton S} {B : Automaton T} {C : Automaton U} {first : U → S} {second : U → T} {sink : T} (paired : Paired A B C first second sink) where
  abbrev left : Configuration U → Configuration S
  left c = first c.state at map first c.stack

  abbrev right : Configuration U → Configuration T
  right c = second c.state at map second c.stack

  -- ---- a run of C is one of A

  left_step : {c d : Configuration U} {a : ℕ} → Step C c a d → Step A (left c) a (left d)
  left_step (internally r) = internally (paired.internals r).0
  left_step (calling r) = calling (paired.calls r).0
  left_step (returning r) = returning (paired.returns r).0

  left-run : {c d : Configuration U} {w : List ℕ} → Run C c w d → Run A (left c) w (left d)
  left-run (done) = done
  left-run (then s r) = then (left_step s) (left-run r)

  -- ---- a run of A gives one of C

  follow-return : {q s : S} {a : ℕ} {σ : List S} {u : U} (τ : List U) → A.return (first u) a s q → map first τ ≡ s ∷ σ → (d : Configuration U) × Step C (u at τ) a d × Corresponds C first d (q at σ)
  follow-return [] r e = let z : ◌≡◌ {A = ℕ} 0 1 = cc in absurd (omega arith)
  follow-return {q} {s} {a} {σ} {u} (t ∷ τ) r e =
      let f : s ≡ first t = cc in
      let k = paired.returns_on {u = u} {s = t} (subst (λ x. A.return (first u) a x q) f r) in
      (_, returning k.1, record { states = k.2; stacks = cc })

  follow-step : {c d : Configuration S} {C' : Configuration U} {a : ℕ} → Step A c a d → Corresponds C first C' c → (D : Configuration U) × Step C C' a D × Corresponds C first D d
  follow-step {C' = C'} (internally {q' = q'} {a = a} r) h =
      let k = paired.internals_on {u = C'.state} (subst (λ x. A.internal x a q') (sym h.states) r) in
      (_, internally k.1, record { states = k.2; stacks = h.stacks })
  follow-step {C' = C'} (calling {q' = q'} {a = a} r) h =
      let k = paired.calls_on {u = C'.state} (subst (λ x. A.call x a q') (sym h.states) r) in
      (_, calling k.1, record { states = k.2; stacks = λ i. h.states i ∷ h.stacks i })
  follow-step {C' = C'} (returning {s = s} {q' = q'} {a = a} r) h = follow-return C'.stack (subst (λ x. A.return x a s q') (sym h.states) r) h.stacks

  follow : Simulation A C (λ c D. Corresponds C first D c)
  follow = record {
    starts = λ i. let k = paired.starts i in (k.0, k.1, record { states = k.2; stacks = refl });
    steps = λ h s. follow-step s h;
  }

  -- ---- a run of C that does not end in the sink is one of B

  module _ (dead : Dead B sink) where
    -- C's step is one of B, or goes to the sink
    right-step : {c d : Configuration U} {a : ℕ} → Step C c a d → Step B (right c) a (right d) ⊎ (second d.state ≡ sink)
    right-step (internally r) = elim (paired.internals r).1 [ moved m ↦ inl (internally m) | stuck n e ↦ inr e ]
    right-step (calling r) = elim (paired.calls r).1 [ moved m ↦ inl (calling m) | stuck n e ↦ inr e ]
    right-step (returning r) = elim (paired.returns r).1 [ moved m ↦ inl (returning m) | stuck n e ↦ inr e ]

    sunk : {f : T → Type 0} {b : T} → After sink f b → ((x : T) → ¬ f x) → b ≡ sink
    sunk (moved m) n = absurd (n _ m)
    sunk (stuck k e) n = e

    sunk_step : {c d : Configuration U} {a : ℕ} → Step C c a d → second c.state ≡ sink → second d.state ≡ sink
    sunk_step (internally {a = a} r) e = sunk (paired.internals r).1 (λ x m. dead.internals (subst (λ b. B.internal b a x) e m))
    sunk_step (calling {a = a} r) e = sunk (paired.calls r).1 (λ x m. dead.calls (subst (λ b. B.call b a x) e m))
    sunk_step (returning {s = s} {a = a} r) e = sunk (paired.returns r).1 (λ x m. dead.returns (subst (λ b. B.return b a (second s) x) e m))

    sunk_run : {c d : Configuration U} {w : List ℕ} → Run C c w d → second c.state ≡ sink → second d.state ≡ sink
    sunk_run (done) e = e
    sunk_run (then s r) e = sunk_run r (sunk_step s e)

    right-run : {c d : Configuration U} {w : List ℕ} → Run C c w d → B.accepting (second d.state) → Run B (right c) w (right d)
    right-run (done) k = done
    right-run (then {c = c} {d = d} {e = e} s r) k = go c d e (right-step s) r k (right-run r k)
      where
        go :
            (c d e : Configuration U) {a : ℕ} {w : List ℕ} → Step B (right c) a (right d) ⊎ (second d.state ≡ sink) → Run C d w e
            → B.accepting (second e.state) → Run B (right d) w (right e) → Run B (right c) (a ∷ w) (right e)
        go c d e (inl t) r k l = then t l
        go c d e (inr f) r k l = absurd (dead.accepting (subst B.accepting (sunk_run r f) k))

  -- ---- a run of B over the same word goes where C's goes

  module _ {kind : ℕ → ℕ} (kinds : Visibly kind A) (kinds' : Visibly kind B) (det : Deterministic B) where
    agree : {f : T → Type 0} {b x : T} → ((y z : T) → f y → f z → y ≡ z) → After sink f b → f x → x ≡ b
    agree d (moved m) k = d _ _ k m
    agree d (stuck n e) k = absurd (n _ k)

    track_step : {c d : Configuration U} {E F : Configuration T} {a : ℕ} → Step C c a d → Step B E a F → E ≡ right c → F ≡ right d
    track_step (internally {q = u} {a = a} r) (internally {q' = x} k) e =
        let f = agree (λ y z. det.internals) (paired.internals r).1 (subst (λ b. B.internal b a x) (ap (λ c. c.state) e) k) in
        λ i. record { state = f i; stack = (e i).stack }
    track_step (calling {q = u} {a = a} r) (calling {q' = x} k) e =
        let f = agree (λ y z. det.calls) (paired.calls r).1 (subst (λ b. B.call b a x) (ap (λ c. c.state) e) k) in
        λ i. record { state = f i; stack = (e i).state ∷ (e i).stack }
    track_step (returning {q = u} {s = s} {a = a} {σ = σ} r) (returning {q = q} {s = t} {q' = x} {σ = ρ} k) e =
        let g : t ∷ ρ ≡ second s ∷ map second σ = ap (λ c. c.stack) e in
        let h : t ≡ second s = cc in
        let l : ρ ≡ map second σ = cc in
        let f = agree (λ y z. det.returns) (paired.returns r).1 (subst (λ b. B.return b a (second s) x) (ap (λ c. c.state) e) (subst (λ b. B.return q a b x) h k)) in
        λ i. record { state = f i; stack = l i }
    track_step (internally r) (calling k) e = absurd (omega (arith, kinds.internals (paired.internals r).0, kinds'.calls k))
    track_step (internally r) (returning k) e = absurd (omega (arith, kinds.internals (paired.internals r).0, kinds'.returns k))
    track_step (calling r) (internally k) e = absurd (omega (arith, kinds.calls (paired.calls r).0, kinds'.internals k))
    track_step (calling r) (returning k) e = absurd (omega (arith, kinds.calls (paired.calls r).0, kinds'.returns k))
    track_step (returning r) (internally k) e = absurd (omega (arith, kinds.returns (paired.returns r).0, kinds'.internals k))
    track_step (returning r) (calling k) e = absurd (omega (arith, kinds.returns (paired.returns r).0, kinds'.calls k))

    track : {c d : Configuration U} {E F : Configuration T} {w : List ℕ} → Run C c w d → Run B E w F → E ≡ right c → F ≡ right d
    track (done) (done) e = e
    track (then s r) (then t k) e = track r k (track_step s t e)

    -- ---- the theorem

    -- every pair that is reached on the empty stack with its first accepting has its second accepting
    abbrev pub Safe : Type 0
    Safe = (u : U) → Tops C u none → A.accepting (first u) → B.accepting (second u)

    -- a pair that is reached on the empty stack with its first accepting: a word of A, which B accepts only if the second accepts
    pub reached : (u : U) → Tops C u none → A.accepting (first u) → (w : List ℕ) × Accepts A w × (Accepts B w → B.accepting (second u))
    reached u h k =
        let z = no_top h.stack h.topmost in
        let run = reachable-run C h.reachable in
        (run.1, record { first = first run.0; last = _; initially = (paired.initially run.2).0; run = left-run run.3; finally = record { accepting = k; empty = ap (map first) z } }, λ b. go run.3 (paired.initially run.2).1 b)
      where
        go : {c : U} {d : Configuration U} {w : List ℕ} → Run C (c at []) w d → B.initial (second c) → Accepts B w → B.accepting (second d.state)
        go {c} r i b =
            let e : b.first at [] ≡ second c at [] = λ j. record { state = det.initially b.initially i j; stack = [] } in
            subst B.accepting (ap (λ c. c.state) (track r b.run e)) b.finally.accepting

    module _ (dead : Dead B sink) where
      safe : WordsWithin A B → Safe
      safe within u h k = let r = reached u h k in r.2 (within r.0 r.1)

      fits : Safe → WordsWithin A B
      fits safe = go
        where
          go : (w : List ℕ) → Accepts A w → Accepts B w
          go w h =
              let i = paired.starts h.initially in
              let r = sim_steps A C (λ c D. Corresponds C first D c) follow h.run record { states = i.2; stacks = refl } in
              let k = steps-last r.2 in
              let z = no_image first r.0.stack (k.stacks ∙ h.finally.empty) in
              let l = safe r.0.state record { stack = r.0.stack; topmost = ap top z; reachable = run-reachable C (start i.1) r.1 } (subst A.accepting (sym k.states) h.finally.accepting) in
              record { first = second i.0; last = right r.0; initially = (paired.initially i.1).1; run = right-run dead r.1 l; finally = record { accepting = l; empty = ap (map second) z } }

      pub within-exact : WordsWithin A B ↔ Safe
      within-exact = (safe, fits)
