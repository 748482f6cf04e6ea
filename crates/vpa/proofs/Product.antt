-- A run of the product is a run of each of the two over the same word, so that the product accepts the words that both accept. Assumes nothing.
use mathlib.Core.Path.{◌≡◌, refl}
use mathlib.Core.Logic.{◌↔◌}
use mathlib.Core.List.{List, [], ◌∷◌, map}
use Prim.Native.Nat.{ℕ}
use native.Mathlib.Omega.{arith}
use Rattle.vpa.specs.Automata.{Automaton, Configuration, ◌at◌, Lawful, Step, internally, calling, returning, Run, done, then, AcceptsBy, Ended, Accepts, EndedIn, EndsIn}
use Rattle.vpa.specs.Quotients.{Corresponds, AtEveryStep, at_end, at-step}
use Rattle.vpa.specs.Combined.{EndedOn, EndsOn, product}
use Rattle.vpa.proofs.Simulation.{steps-last, sim_steps, sim_accepts}
use Rattle.vpa.proofs.Calls.{Kinded}
use Rattle.vpa.proofs.Correspondence.{image, image_corresponds, empty-exact}
use Rattle.vpa.proofs.Homomorphism.{Homomorphism, simulated}

module _ {S T U : Type 0} (A : Automaton S) (B : Automaton T) (f : U → S) (g : U → T) where
  abbrev P : Automaton U
  P = product A B f g

  -- ---- a run of the product gives a run of each. Nothing is asked of the two

  firsts : Homomorphism P A f
  unfolding product
  firsts = record { initially = λ i. i.0; internals = λ r. r.0; calls = λ r. r.0; returns = λ r. r.0 }

  seconds : Homomorphism P B g
  unfolding product
  seconds = record { initially = λ i. i.1; internals = λ r. r.1; calls = λ r. r.1; returns = λ r. r.1 }

  pub first_run : {u : U} {D : Configuration U} {w : List ℕ} (r : Run P (u at []) w D) → (d : Configuration S) × (k : Run A (f u at []) w d) × AtEveryStep (Corresponds P f) r k
  first_run r = sim_steps P A (Corresponds P f) (simulated P A f firsts) r (record { states = refl; stacks = refl })

  pub second_run : {u : U} {D : Configuration U} {w : List ℕ} (r : Run P (u at []) w D) → (d : Configuration T) × (k : Run B (g u at []) w d) × AtEveryStep (Corresponds P g) r k
  second_run r = sim_steps P B (Corresponds P g) (simulated P B g seconds) r (record { states = refl; stacks = refl })

  -- ---- a run of each gives a run of the product, where each symbol has one kind and two states have a pair

  -- the configurations of the two, and that of the product: the stacks are of one height
  pub record Paired (c : Configuration S) (d : Configuration T) (C : Configuration U) : Type 0 where
    pub first : Corresponds P f C c
    pub second : Corresponds P g C d

  -- a state of the second with any of the first has a pair
  pub record Pairs (pair : S → T → U) : Type 0 where
    pub first : {p : S} {q : T} → B.state q → f (pair p q) ≡ p
    pub second : {p : S} {q : T} → B.state q → g (pair p q) ≡ q

  module _ (kind : ℕ → ℕ) (kinded : Kinded A kind) (kinded' : Kinded B kind) (lawful : Lawful B) (pair : S → T → U) (pairs : Pairs pair) where
    -- a move of both to two states is a move of the product to their pair
    paired : {p : S} {q : T} → B.state q → (ξ : List U) {σ : List S} {τ : List T} → map f ξ ≡ σ → map g ξ ≡ τ → Paired (p at σ) (q at τ) (pair p q at ξ)
    paired h ξ e e' = record { first = record { states = pairs.first h; stacks = e }; second = record { states = pairs.second h; stacks = e' } }

    pair-return : {p s p' : S} {q t q' : T} {a : ℕ} {σ : List S} {τ : List T} {u : U} (ξ : List U) → A.return p a s p' → B.return q a t q' → f u ≡ p → g u ≡ q → map f ξ ≡ s ∷ σ → map g ξ ≡ t ∷ τ
        → (D : Configuration U) × Step P (u at ξ) a D × Paired (p' at σ) (q' at τ) D
    unfolding product
    pair-return [] r r' e e' l l' = let z : ◌≡◌ {A = ℕ} 0 1 = cc in absurd (omega arith)
    pair-return {p} {s} {p'} {q} {t} {q'} {a} {u = u} (v ∷ ξ) r r' e e' l l' =
        let y = (lawful.returns r').2 in
        let s1 : f v ≡ s = cc in
        let s2 : g v ≡ t = cc in
        let m1 : A.return (f u) a (f v) (f (pair p' q')) = rw (e, s1, pairs.first y) r in
        let m2 : B.return (g u) a (g v) (g (pair p' q')) = rw (e', s2, pairs.second y) r' in
        (_, returning (m1, m2), paired y ξ (cc) (cc))

    pair_step : {c c' : Configuration S} {d d' : Configuration T} {C : Configuration U} {a : ℕ} → Step A c a c' → Step B d a d' → Paired c d C → (D : Configuration U) × Step P C a D × Paired c' d' D
    unfolding product
    pair_step {C = C} {a = a} (internally {q' = p'} r) (internally {q' = q'} r') h =
        let y = (lawful.internals r').1 in
        let m1 : A.internal (f C.state) a (f (pair p' q')) = rw (h.first.states, pairs.first y) r in
        let m2 : B.internal (g C.state) a (g (pair p' q')) = rw (h.second.states, pairs.second y) r' in
        (_, internally (m1, m2), paired y C.stack h.first.stacks h.second.stacks)
    pair_step {C = C} {a = a} (calling {q' = p'} r) (calling {q' = q'} r') h =
        let y = (lawful.calls r').1 in
        let m1 : A.call (f C.state) a (f (pair p' q')) = rw (h.first.states, pairs.first y) r in
        let m2 : B.call (g C.state) a (g (pair p' q')) = rw (h.second.states, pairs.second y) r' in
        (_, calling (m1, m2), paired y (C.state ∷ C.stack) (λ i. h.first.states i ∷ h.first.stacks i) (λ i. h.second.states i ∷ h.second.stacks i))
    pair_step {C = C} (returning r) (returning r') h = pair-return C.stack r r' h.first.states h.second.states h.first.stacks h.second.stacks
    pair_step (internally r) (calling r') h = absurd (omega (arith, kinded.internals r, kinded'.calls r'))
    pair_step (internally r) (returning r') h = absurd (omega (arith, kinded.internals r, kinded'.returns r'))
    pair_step (calling r) (internally r') h = absurd (omega (arith, kinded.calls r, kinded'.internals r'))
    pair_step (calling r) (returning r') h = absurd (omega (arith, kinded.calls r, kinded'.returns r'))
    pair_step (returning r) (internally r') h = absurd (omega (arith, kinded.returns r, kinded'.internals r'))
    pair_step (returning r) (calling r') h = absurd (omega (arith, kinded.returns r, kinded'.calls r'))

    -- two runs over one word, and that of the product, paired before its first symbol and after each
    pub pair-run : {c c' : Configuration S} {d d' : Configuration T} {C : Configuration U} {w : List ℕ} (r : Run A c w c') (r' : Run B d w d') → Paired c d C
        → (D : Configuration U) × (u : Run P C w D) × AtEveryStep (Corresponds P f) u r × AtEveryStep (Corresponds P g) u r'
    pair-run (done) (done) h = (_, done, at_end h.first, at_end h.second)
    pair-run (then s r) (then s' r') h =
        let k = pair_step s s' h in
        let l = pair-run r r' k.2 in
        (l.0, then k.1 l.1, at-step h.first l.2, at-step h.second l.3)

    pair-start : {p : S} {q : T} → A.initial p → B.initial q → P.initial (pair p q)
    unfolding product
    pair-start i j = let y = lawful.initially j in (rw (pairs.first y) i, rw (pairs.second y) j)

    -- ---- the words, for any acceptance of the product that is one of each

    pub product-exact : {F : Configuration S → Type 0} {G : Configuration T → Type 0} {H : Configuration U → Type 0}
        → ((c : Configuration S) (d : Configuration T) (C : Configuration U) → Paired c d C → H C ↔ F c × G d) → (w : List ℕ) → AcceptsBy P H w ↔ AcceptsBy A F w × AcceptsBy B G w
    product-exact {F} {G} {H} e w = (
      λ h. (
        sim_accepts P A (Corresponds P f) (simulated P A f firsts) (λ C c k i. ((e c (image P g C) C (record { first = k; second = image_corresponds P g C })).0 i).0) h,
        sim_accepts P B (Corresponds P g) (simulated P B g seconds) (λ C d k i. ((e (image P f C) d C (record { first = image_corresponds P f C; second = k })).0 i).1) h,
      ),
      λ (h, k).
          let y = lawful.initially k.initially in
          let r = pair-run h.run k.run (paired {p = h.first} y [] refl refl) in
          record { first = pair h.first k.first; last = r.0; initially = pair-start h.initially k.initially; run = r.1; finally = (e _ _ _ (record { first = steps-last r.2; second = steps-last r.3 })).1 (h.finally, k.finally) },
    )

    ended-exact : (c : Configuration S) (d : Configuration T) (C : Configuration U) → Paired c d C → Ended P C ↔ Ended A c × Ended B d
    unfolding product
    ended-exact c d C h =
        let n = empty-exact P f C.stack c.stack h.first.stacks in
        let l = empty-exact P g C.stack d.stack h.second.stacks in (
          λ k. (record { accepting = rw h.first.states at k.accepting.0; empty = n.0 k.empty }, record { accepting = rw h.second.states at k.accepting.1; empty = l.0 k.empty }),
          λ (k, j). record { accepting = (rw h.first.states k.accepting, rw h.second.states j.accepting); empty = n.1 k.empty },
        )

    -- the product accepts "the words that both .. accept"
    pub product-words : (w : List ℕ) → Accepts P w ↔ Accepts A w × Accepts B w
    product-words = product-exact ended-exact

    ended_in_exact : (j : ℕ) (c : Configuration S) (d : Configuration T) (C : Configuration U) → Paired c d C → EndedIn P j C ↔ EndedIn A j c × EndedOn B d
    unfolding product
    ended_in_exact j c d C h =
        let n = empty-exact P f C.stack c.stack h.first.stacks in
        let l = empty-exact P g C.stack d.stack h.second.stacks in (
          λ k. (record { mark = rw h.first.states at k.mark.0; closed = n.0 k.closed }, record { state = rw h.second.states at k.mark.1; closed = l.0 k.closed }),
          λ (k, i). record { mark = (rw h.first.states k.mark, rw h.second.states i.state); closed = n.1 k.closed },
        )

    -- "marks are the first's": a word of a mark is one of the first's over which the second, too, has a run to the empty stack
    pub product-marks : (j : ℕ) (w : List ℕ) → EndsIn P j w ↔ EndsIn A j w × EndsOn B w
    product-marks j = product-exact (ended_in_exact j)

-- pairs as such
pub both-pairs : {S T : Type 0} (A : Automaton S) (B : Automaton T) → Pairs A B (λ (u : S × T). u.0) (λ (u : S × T). u.1) (λ p q. (p, q))
both-pairs A B = record { first = λ h. refl; second = λ h. refl }
